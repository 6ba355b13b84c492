use Rattle.std.proofs.Common.{◌≡◌, ℕ, List, Some, None, map, refl, sym, ap, ◌∙◌, option_map}
use Rattle.std.specs.String.{string_bytes}
use Rattle.command_words.specs.Request.{request_of, request_seen}
use Rattle.protocol_loading.specs.Outside.{outside}
use Rattle.call_outcomes.specs.SeenOutcome.{outcome_of}
use Rattle.call_outcomes.specs.declared.outcome.Outcome.TheVariants.{Usage, Memory}
use Rattle.call_outcomes.specs.Writing.{IsWritten}
use Rattle.call_outcomes.proofs.Written.{written_of}
use Rattle.verifier_cli.specs.World.{World, format_of}
use Rattle.verifier_cli.proofs.World.{AskedNumbers, askable, as_asked, a_command, never_for_nothing, memory_world}
use Rattle.verifier_cli.proofs.call.top.Goals as goal

pub answer-requires : goal.answer-requires
answer-requires g c =
    let w = c.in-Ok-Some in
    let numbers : AskedNumbers = record { budgets = c.asked_budgets.ensures; formats = c.asked_formats.ensures; stages = c.asked_stages.ensures } in
    let made : Some (request_seen w.asked) ≡ request_of (map string_bytes c.args.words.now) = sym (ap (option_map request_seen) w.field-0-is) ∙ w.ensures.request in
    askable numbers (map string_bytes c.args.words.now) (request_seen w.asked) (sym made)

pub returns-in-Ok-Some-clause-usage : goal.returns-in-Ok-Some-clause-usage
returns-in-Ok-Some-clause-usage g c =
    let w = c.in-Ok-Some in
    let made : Some (request_seen w.asked) ≡ request_of (map string_bytes c.args.words.now) = sym (ap (option_map request_seen) w.field-0-is) ∙ w.ensures.request in
    λ none. absurd (a_command (map string_bytes c.args.words.now) (request_seen w.asked) made none)

pub returns-in-Ok-Some-clause-usage_only : goal.returns-in-Ok-Some-clause-usage_only
returns-in-Ok-Some-clause-usage_only g c = λ e. absurd (never_for_nothing _ _ _ _ c.answer.ensures.world e)

pub returns-in-Ok-Some-clause-usage_text : goal.returns-in-Ok-Some-clause-usage_text
returns-in-Ok-Some-clause-usage_text g c =
    let w = c.in-Ok-Some in
    let made : Some (request_seen w.asked) ≡ request_of (map string_bytes c.args.words.now) = sym (ap (option_map request_seen) w.field-0-is) ∙ w.ensures.request in
    λ none. absurd (a_command (map string_bytes c.args.words.now) (request_seen w.asked) made none)

pub returns-in-Ok-Some-clause-usage_loads : goal.returns-in-Ok-Some-clause-usage_loads
returns-in-Ok-Some-clause-usage_loads g c =
    let w = c.in-Ok-Some in
    let made : Some (request_seen w.asked) ≡ request_of (map string_bytes c.args.words.now) = sym (ap (option_map request_seen) w.field-0-is) ∙ w.ensures.request in
    λ none. absurd (a_command (map string_bytes c.args.words.now) (request_seen w.asked) made none)

pub returns-in-Ok-Some-clause-world : goal.returns-in-Ok-Some-clause-world
returns-in-Ok-Some-clause-world g c =
    let w = c.in-Ok-Some in
    let made : Some (request_seen w.asked) ≡ request_of (map string_bytes c.args.words.now) = sym (ap (option_map request_seen) w.field-0-is) ∙ w.ensures.request in
    let files = outside g.F.Files.held g.F.Files.faults g.F.Files.loads c.args.files.now c.answer.new.files in
    let Writes : List ℕ → Type 0 = λ text. IsWritten c.answer.result.status (g.S.Sink.written c.args.out.now) (g.S.Sink.written c.answer.new.out) text in
    as_asked (map string_bytes c.args.words.now) (request_seen w.asked) (λ asked. World asked files (outcome_of c.answer.result.outcome) Writes) made c.answer.ensures.world

pub returns-in-Ok-None-clause-usage_text : goal.returns-in-Ok-None-clause-usage_text
returns-in-Ok-None-clause-usage_text g c = λ none. written_of 1 _ _ _ _ None _ Usage c.finish.ensures.outcome c.finish.ensures.whole c.finish.ensures.part refl

pub returns-in-Ok-None-clause-world : goal.returns-in-Ok-None-clause-world
returns-in-Ok-None-clause-world g c = λ asked is. absurd (a_command (map string_bytes c.args.words.now) asked (sym is) (sym c.in-Ok-None.ensures.request ∙ ap (option_map request_seen) c.in-Ok-None.field-0-is))

pub returns-in-Err-clause-usage_text : goal.returns-in-Err-clause-usage_text
returns-in-Err-clause-usage_text g c = λ none. written_of 1 _ _ _ _ None _ Memory c.finish-in-Err.ensures.outcome c.finish-in-Err.ensures.whole c.finish-in-Err.ensures.part refl

pub returns-in-Err-clause-world : goal.returns-in-Err-clause-world
returns-in-Err-clause-world g c = λ asked is.
    let files = outside g.F.Files.held g.F.Files.faults g.F.Files.loads c.args.files.now c.args.files.now in
    let Writes : List ℕ → Type 0 = λ text. IsWritten c.finish-in-Err.result.status (g.S.Sink.written c.args.out.now) (g.S.Sink.written c.finish-in-Err.new.out) text in
    memory_world asked files c.finish-in-Err.result.outcome Writes refl (ap outcome_of c.finish-in-Err.ensures.outcome)
    (written_of (format_of asked) _ _ _ _ None _ Memory c.finish-in-Err.ensures.outcome c.finish-in-Err.ensures.whole c.finish-in-Err.ensures.part refl)
