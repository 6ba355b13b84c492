use Rattle.std.proofs.Common.{filter_map, map, take}
use Rattle.std.specs.List.{enumerate_from}
use Rattle.spec_translation.specs.Attacker.{constructor_applied}
use Rattle.pi_tree.specs.Names.{declared_of}
use Rattle.attacker_clauses.proofs.Adding.{AreAdded}
use Rattle.attacker_clauses.proofs.constructors.add_constructors.Given as goal

abbrev pub invariant-loop-index : goal.invariant-loop-index
invariant-loop-index g l = AreAdded (g.B.Bank.trees l.fn.bank) (g.B.Bank.trees l.bank) l.fn.list l.list (filter_map (constructor_applied l.at.phase) (enumerate_from 1 (map declared_of (take l.index l.declared-items))))
