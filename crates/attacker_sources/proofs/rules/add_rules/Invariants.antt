use Rattle.std.proofs.Common.{◌≡◌, map, take}
use Rattle.std.specs.List.{enumerate_from}
use Rattle.spec_translation.specs.Attacker.{rule_applied}
use Rattle.spec_attack_runs.specs.Source.{Reduces}
use Rattle.pi_tree.specs.Rules.{rule_of}
use Rattle.pi_tree.specs.Protocols.{protocol_of}
use Rattle.clause_sources.specs.Listed.{Tells}
use Rattle.attacker_sources.proofs.rules.add_rules.Given as goal

abbrev pub invariant-each : goal.invariant-each
invariant-each g l = record {
  bank : g.B.Bank.trees l.bank ≡ g.B.Bank.trees l.fn.bank;
  tells : Tells l.fn.sources l.sources (map (λ rule. (Reduces l.numbered.0 rule.0, rule_applied (protocol_of l.protocol) l.at.phase rule.1)) (enumerate_from 1 (map rule_of (take l.index l.rule-items))));
}
