use Rattle.std.proofs.Common.{◌≡◌, take}
use Rattle.pi_tree.proofs.syntax.+term_copy.Given as goal

abbrev pub invariant-Terms::copy-loop-term : goal.invariant-Terms::copy-loop-term
invariant-Terms::copy-loop-term l = l.items.items ≡ take l.term-index l.term-items
