use Rattle.std.proofs.Common.{None, option_map, refl, sym, subst}
use Rattle.command_words.specs.Request.{request_seen}
use Rattle.command_words.specs.declared.Request.{Request}
use Rattle.pi_tree.specs.Protocols.{protocol_of}
use Rattle.protocol_loading.specs.Outside.{outside}
use Rattle.call_outcomes.specs.SeenOutcome.{outcome_of}
use Rattle.verifier_cli.specs.Command.{IsAskable}
use Rattle.verifier_cli.specs.Requests.{ComesTo}
use Rattle.verifier_cli.proofs.Comes.{ring_comes}
use Rattle.verifier_cli.proofs.deciding.decide.Goals as goal

pub verify_file-requires : goal.verify_file-requires
verify_file-requires g c = (subst (λ (r : Request). IsAskable (request_seen r)) c.in-Verify.is c.requires).0

pub returns-in-Check-clause-comes : goal.returns-in-Check-clause-comes
returns-in-Check-clause-comes g c =
    let files = outside g.F.Files.held g.F.Files.faults g.F.Files.loads c.args.files.now c.check_file.new.files in
    subst (λ (r : Request). ComesTo (request_seen r) files None (outcome_of c.check_file.result)) (sym c.in-Check.is) c.check_file.ensures.comes

pub returns-in-Replay-clause-comes : goal.returns-in-Replay-clause-comes
returns-in-Replay-clause-comes g c =
    let files = outside g.F.Files.held g.F.Files.faults g.F.Files.loads c.args.files.now c.replay_file.new.files in
    subst (λ (r : Request). ComesTo (request_seen r) files None (outcome_of c.replay_file.result)) (sym c.in-Replay.is) c.replay_file.ensures.comes

pub returns-in-Ring-clause-comes : goal.returns-in-Ring-clause-comes
returns-in-Ring-clause-comes g c =
    let files = outside g.F.Files.held g.F.Files.faults g.F.Files.loads c.args.files.now c.args.files.now in
    let P = option_map protocol_of c.ring.result.protocol in
    let outcome = outcome_of c.ring.result.outcome in
    subst (λ (r : Request). ComesTo (request_seen r) files P outcome) (sym c.in-Ring.is) (ring_comes c.in-Ring.stages files P outcome refl c.ring.ensures.spelled c.ring.ensures.rings)
