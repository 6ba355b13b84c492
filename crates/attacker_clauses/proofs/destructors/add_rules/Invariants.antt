use Rattle.std.proofs.Common.{map, take}
use Rattle.spec_translation.specs.Attacker.{rule_applied}
use Rattle.pi_tree.specs.Rules.{rule_of}
use Rattle.pi_tree.specs.Protocols.{protocol_of}
use Rattle.attacker_clauses.proofs.Adding.{AreAdded}
use Rattle.attacker_clauses.proofs.destructors.add_rules.Given as goal

abbrev pub invariant-loop-rule : goal.invariant-loop-rule
invariant-loop-rule g l = AreAdded (g.B.Bank.trees l.fn.bank) (g.B.Bank.trees l.bank) l.fn.list l.list (map (rule_applied (protocol_of l.protocol) l.at.phase) (map rule_of (take l.rule-index l.rule-items)))
