-- What is over the limit of size.
use Rattle.std.specs.Prelude.{ℕ, ◌+◌, Bool, not, nat_le, List}
use Rattle.std.specs.List.{list_any}
use Rattle.spec_terms.specs.Term.{Term}
use Rattle.spec_calculus.specs.Bounds.{most_symbols}
use Rattle.spec_clauses.specs.Fact.{Fact, fact_size}

-- whether so many symbols are over the limit
abbrev pub is_over : ℕ → Bool
is_over n = not (nat_le n most_symbols)

-- whether some fact has, with n symbols more, more than the limit
abbrev pub some_over : ℕ → List (Fact Term) → Bool
some_over n fs = list_any (λ f. is_over (fact_size f + n)) fs
