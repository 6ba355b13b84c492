use Rattle.std.proofs.Common.{◌≡◌, filter_map, map, take}
use Rattle.std.specs.List.{enumerate_from}
use Rattle.pi_tree.specs.Names.{declared_of}
use Rattle.clause_sources.specs.Listed.{Tells}
use Rattle.attacker_sources.specs.Deeds.{constructor_deed}
use Rattle.attacker_sources.proofs.constructors.add_constructors.Given as goal

abbrev pub invariant-each : goal.invariant-each
invariant-each g l = record {
  bank : g.B.Bank.trees l.bank ≡ g.B.Bank.trees l.fn.bank;
  tells : Tells l.fn.sources l.sources (filter_map (constructor_deed l.at.phase) (enumerate_from 1 (map declared_of (take l.index l.declared-items))));
}
