use Rattle.std.proofs.Common.{◌≡◌, flat_map, map, take}
use Rattle.std.specs.List.{enumerate_from}
use Rattle.spec_attack_runs.specs.Gathered.{rule_deeds}
use Rattle.pi_tree.specs.Rules.{destructor_of}
use Rattle.pi_tree.specs.Protocols.{protocol_of}
use Rattle.clause_sources.specs.Listed.{Tells}
use Rattle.attacker_sources.proofs.rules.add_destructors.Given as goal

abbrev pub invariant-each : goal.invariant-each
invariant-each g l = record {
  bank : g.B.Bank.trees l.bank ≡ g.B.Bank.trees l.fn.bank;
  tells : Tells l.fn.sources l.sources (flat_map (rule_deeds (protocol_of l.protocol) l.at.phase) (enumerate_from 1 (map destructor_of (take l.index l.dtor-items))));
}
