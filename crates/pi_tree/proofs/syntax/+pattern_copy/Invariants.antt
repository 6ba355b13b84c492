use Rattle.std.proofs.Common.{◌≡◌, take}
use Rattle.pi_tree.proofs.syntax.+pattern_copy.Given as goal

abbrev pub invariant-Pats::copy-loop-pattern : goal.invariant-Pats::copy-loop-pattern
invariant-Pats::copy-loop-pattern l = l.items.items ≡ take l.pattern-index l.pattern-items
