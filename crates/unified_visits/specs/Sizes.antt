-- Terms and facts over a size.
use Rattle.std.specs.Prelude.{ℕ, Bool, not, nat_le, List}
use Rattle.std.specs.List.{list_any}
use Rattle.spec_trees.specs.Tree.{size}
use Rattle.spec_terms.specs.Term.{Term}
use Rattle.spec_clauses.specs.Fact.{Fact, terms_of}
use Rattle.spec_translation.specs.Conversion.{Scope}

-- whether the term has more symbols
abbrev pub is_over : ℕ → Term → Bool
is_over most t = not (nat_le (size t) most)

-- whether one of the terms has, a term of the fact, a term of one of the facts
abbrev pub some_over : ℕ → List Term → Bool
some_over most ts = list_any (is_over most) ts

abbrev pub some_over_in : ℕ → Fact Term → Bool
some_over_in most f = some_over most (terms_of f)

abbrev pub some_fact_over : ℕ → List (Fact Term) → Bool
some_fact_over most fs = list_any (some_over_in most) fs

-- a term of the scope
abbrev pub some_standing_over : ℕ → Scope → Bool
some_standing_over most scope = list_any (λ b. is_over most b.term) scope
