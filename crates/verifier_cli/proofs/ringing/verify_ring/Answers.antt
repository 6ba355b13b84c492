use Rattle.std.proofs.Common.{sym, subst}
use Rattle.spec_protocol_scope.specs.Spells.{Spells}
use Rattle.spec_ring_text.specs.Meaning.{ring_protocol}
use Rattle.pi_tree.specs.Protocols.{protocol_of}
use Rattle.call_outcomes.specs.Outcome.{Outcome}
use Rattle.call_outcomes.specs.SeenOutcome.{outcome_of}
use Rattle.verifier_cli.specs.Ringing.{Rings}
use Rattle.verifier_cli.proofs.Verifying.{Laws, Soundness}
use Rattle.verifier_cli.proofs.Rings.{memory_rings, ring_said, unread_is_memory}
use Rattle.verifier_cli.proofs.ringing.verify_ring.Goals as goal

pub summed-outcome-requires-clause-ring : goal.summed-outcome-requires-clause-ring
summed-outcome-requires-clause-ring c =
    c.one_protocol.ensures c.args.text.now (protocol_of c.in-Ok.protocol) (ring_protocol c.args.stages) c.in-Ok.ensures.spelled c.requires.spells

pub returns-in-Ok-clause-spelled : goal.returns-in-Ok-clause-spelled
returns-in-Ok-clause-spelled c = subst (λ text. Spells text (protocol_of c.in-Ok.protocol)) c.requires.text c.in-Ok.ensures.spelled

pub returns-in-Err-clause-rings : goal.returns-in-Err-clause-rings
returns-in-Err-clause-rings c =
    let memory = unread_is_memory c.args.text.now (λ why place refused. c.never_both.ensures c.args.text.now (ring_protocol c.args.stages) why place c.requires.spells refused) (outcome_of c.in-Err.outcome) c.in-Err.ensures.unread in
    subst (λ (x : Outcome). Rings c.args.stages x) (sym memory) (memory_rings c.args.stages)

pub returns-in-Ok-clause-rings : goal.returns-in-Ok-clause-rings
returns-in-Ok-clause-rings c =
    let laws : Laws = record { one_protocol = c.one_protocol.ensures; one_refusal = c.one_refusal.ensures; never_both = c.never_both.ensures } in
    let sound : Soundness = record { proper = c.queries_of_read_protocols.ensures.proper; hold = c.proved_queries_hold.ensures } in
    ring_said sound laws c.args.stages (protocol_of c.in-Ok.protocol) (outcome_of c.summed-outcome.result) c.summed-outcome.ensures
    (subst (λ text. Spells text (protocol_of c.in-Ok.protocol)) c.requires.text c.in-Ok.ensures.spelled)
