use Rattle.std.proofs.Common.{◌+◌, ◌∷◌}
use Rattle.spec_translation.specs.Attacker.{done_in, kept_known, done_after}
use Rattle.pi_tree.specs.Protocols.{protocol_of}
use Rattle.attacker_clauses.proofs.Later.{one_phase_more}
use Rattle.attacker_clauses.proofs.Adding.{added_on}
use Rattle.term_tree.proofs.BankLaws.{Grows_trans}
use Rattle.attacker_clauses.proofs.phases.add_later_phases.Goals as goal

pub loop-phase-preserved : goal.loop-phase-preserved
loop-phase-preserved g c =
    let P = protocol_of c.args.protocol.now in
    let k = c.loop-phase.phase in
    added_on (g.B.Bank.trees c.args.bank.now) (g.B.Bank.trees c.loop-phase.bank) (g.B.Bank.trees c.add_next_phase.new.bank) c.args.list.now c.loop-phase.list c.add_next_phase.new.list (done_after P 0 k) (kept_known k ∷ done_in P (k + 1)) (done_after P 0 (k + 1))
    c.loop-phase.invariant c.add_next_phase.ensures.grows c.in_ok-add_next_phase.ensures.adds (one_phase_more P k)

pub returns-in_err-add_next_phase-clause-grows : goal.returns-in_err-add_next_phase-clause-grows
returns-in_err-add_next_phase-clause-grows g c = Grows_trans (g.B.Bank.trees c.args.bank.now) (g.B.Bank.trees c.loop-phase.bank) (g.B.Bank.trees c.add_next_phase.new.bank) c.loop-phase.invariant.grows c.add_next_phase.ensures.grows
