use Rattle.std.proofs.Common.{◌≡◌, take}
use Rattle.pi_tree.proofs.destructors.Rules.copy.Given as goal

abbrev pub invariant-loop-rule : goal.invariant-loop-rule
invariant-loop-rule l = l.items.items ≡ take l.rule-index l.rule-items
