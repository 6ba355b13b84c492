use Rattle.std.proofs.Common.{ℕ, List, ap, option_map}
use Rattle.command_words.specs.Request.{request_seen}
use Rattle.pi_tree.specs.Protocols.{protocol_of}
use Rattle.protocol_loading.specs.Outside.{outside}
use Rattle.call_outcomes.specs.Text.{words_of}
use Rattle.call_outcomes.specs.SeenOutcome.{outcome_of}
use Rattle.call_outcomes.specs.Writing.{IsWritten}
use Rattle.verifier_cli.proofs.World.{world_of}
use Rattle.verifier_cli.proofs.call.answer.Goals as goal

pub returns-clause-world : goal.returns-clause-world
returns-clause-world g c =
    let files = outside g.F.Files.held g.F.Files.faults g.F.Files.loads c.args.files.now c.decide-protocol.new.files in
    let Writes : List ℕ → Type 0 = λ text. IsWritten c.respond-answer.result.status (g.S.Sink.written c.args.out.now) (g.S.Sink.written c.respond-answer.new.out) text in
    let same = ap (option_map protocol_of) c.as_ref.ensures.value in
    world_of c.verdicts_are_read_back.ensures (request_seen c.args.asked) c.requires
    files _ (words_of c.as_ref.result) _ (outcome_of c.respond-answer.result.outcome) _ Writes same c.format_of.ensures.asked c.decide-protocol.ensures.comes c.respond-answer.ensures.outcome c.respond-answer.ensures.words c.respond-answer.ensures.written
