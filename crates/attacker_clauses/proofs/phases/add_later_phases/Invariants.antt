use Rattle.spec_translation.specs.Attacker.{done_after}
use Rattle.pi_tree.specs.Protocols.{protocol_of}
use Rattle.attacker_clauses.proofs.Adding.{AreAdded}
use Rattle.attacker_clauses.proofs.phases.add_later_phases.Given as goal

abbrev pub invariant-loop-phase : goal.invariant-loop-phase
invariant-loop-phase g l = AreAdded (g.B.Bank.trees l.fn.bank) (g.B.Bank.trees l.bank) l.fn.list l.list (done_after (protocol_of l.protocol) 0 l.phase)
