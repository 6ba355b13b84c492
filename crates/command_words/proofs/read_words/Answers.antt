use Rattle.std.proofs.Common.{◌∙◌, None, map, string_bytes, sym}
use Rattle.command_words.proofs.Complete.{taken_answer}
use Rattle.command_words.proofs.Reading.{asked_is, nothing_asked}
use Rattle.command_words.proofs.read_words.Goals as goal

pub returns-in-Ok : goal.returns-in-Ok
returns-in-Ok c =
    let asks = c.requested.ensures ∙ asked_is _ (map string_bytes c.args.words.now) _ _ c.in_ok-commands.ensures c.in-Ok.ensures.kinds c.in-Ok.ensures.matches in
    record { request = asks; taken = taken_answer c.requested.result (map string_bytes c.args.words.now) asks }

pub returns : goal.returns
returns c =
    let nothing = nothing_asked _ (map string_bytes c.args.words.now) c.in-Err.error c.in_ok-commands.ensures c.in-Err.ensures.kinds (λ memory. c.in_default.not-OutOfMemory (c.kind.ensures ∙ memory)) in
    record { request = sym nothing; taken = taken_answer None (map string_bytes c.args.words.now) (sym nothing) }
