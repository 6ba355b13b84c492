use Rattle.std.proofs.Common.{flat_map, map, take}
use Rattle.spec_translation.specs.Attacker.{rule_applied}
use Rattle.pi_tree.specs.Rules.{destructor_of}
use Rattle.pi_tree.specs.Protocols.{protocol_of}
use Rattle.attacker_clauses.proofs.Adding.{AreAdded}
use Rattle.attacker_clauses.proofs.destructors.add_destructors.Given as goal

abbrev pub invariant-loop-destructor : goal.invariant-loop-destructor
invariant-loop-destructor g l =
    AreAdded (g.B.Bank.trees l.fn.bank) (g.B.Bank.trees l.bank) l.fn.list l.list (flat_map (λ d. map (rule_applied (protocol_of l.protocol) l.at.phase) d.rules) (map destructor_of (take l.destructor-index l.destructor-items)))
