-- What comes of a unification, with the unifier left open: most general unifiers differ in the names of variables.
use Rattle.std.specs.Prelude.{◌≡◌, Option, Some, None}
use Rattle.spec_terms.specs.Term.{Subst}
use Rattle.spec_terms.specs.Unifier.{IsMostGeneral}

-- what is made of a most general one among the accepted substitutions, or None where none is accepted
abbrev pub MguGives : {X : Type 0} → (Subst → Type 0) → (Subst → X) → Option X → Type 0
MguGives Accepted made None = (s : Subst) → Accepted s → ⊥
MguGives Accepted made (Some x) = (s : Subst) × IsMostGeneral Accepted s × (x ≡ made s)
