-- Ids of two lists, one behind the other.
use Rattle.std.proofs.Common.{List, [], ◌∷◌, ◌++◌}
use Rattle.spec_terms.specs.Term.{Term}
use Rattle.term_tree.specs.Bank.{AreKnown}
use Rattle.term_tree.specs.declared.bank.Id.{Id}

pub both_known : (all : List Term) (xs ys : List Id) → AreKnown all xs → AreKnown all ys → AreKnown all (xs ++ ys)
both_known all [] ys first second = second
both_known all (x ∷ xs) ys first second = (first.0, both_known all xs ys first.1 second)
