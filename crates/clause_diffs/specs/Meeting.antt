-- Unification of lists of terms.
use Rattle.std.specs.Prelude.{List}
use Rattle.spec_terms.specs.Term.{Term, Subst}
use Rattle.spec_terms.specs.Unifier.{UnifiesAll, IsMostGeneral}

-- s is a most general unifier of the two lists of terms, item by item
abbrev pub IsMguOfAll : List Term → List Term → Subst → Type 0
IsMguOfAll xs ys s = IsMostGeneral (λ r. UnifiesAll r xs ys) s

-- nothing unifies the two lists
abbrev pub HaveNoUnifierOfAll : List Term → List Term → Type 0
HaveNoUnifierOfAll xs ys = (s : Subst) → UnifiesAll s xs ys → ⊥
