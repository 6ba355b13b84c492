-- Unification of facts.
use Rattle.std.specs.Prelude.{◌≡◌}
use Rattle.spec_terms.specs.Term.{Term, Subst}
use Rattle.spec_terms.specs.Unifier.{IsMostGeneral}
use Rattle.spec_clauses.specs.Fact.{Fact, fact_under}

-- s is a most general unifier of the two facts
abbrev pub IsMguOfFacts : Fact Term → Fact Term → Subst → Type 0
IsMguOfFacts f g s = IsMostGeneral (λ r. fact_under r f ≡ fact_under r g) s

-- nothing unifies the two facts
abbrev pub HaveNoUnifier : Fact Term → Fact Term → Type 0
HaveNoUnifier f g = (s : Subst) → fact_under s f ≡ fact_under s g → ⊥

-- nothing unifies the two facts, whatever their variables are called
abbrev pub NeverMeet : Fact Term → Fact Term → Type 0
NeverMeet f g = (s t : Subst) → fact_under s f ≡ fact_under t g → ⊥
