use Rattle.std.proofs.Common.{◌≡◌, filter_map, map, take}
use Rattle.std.specs.List.{enumerate_from}
use Rattle.spec_translation.specs.Attacker.{name_known}
use Rattle.spec_attack_runs.specs.Gathered.{idle}
use Rattle.pi_tree.specs.Names.{declared_of}
use Rattle.clause_sources.specs.Listed.{Tells}
use Rattle.attacker_sources.proofs.names.add_names.Given as goal

abbrev pub invariant-each : goal.invariant-each
invariant-each g l = record {
  bank : g.B.Bank.trees l.bank ≡ g.B.Bank.trees l.fn.bank;
  tells : Tells l.fn.sources l.sources (map idle (filter_map name_known (enumerate_from 1 (map declared_of (take l.index l.declared-items)))));
}
