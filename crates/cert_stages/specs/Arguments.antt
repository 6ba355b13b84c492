-- How many arguments `bad` has.
use Rattle.std.specs.Prelude.{ℕ, length}
use Rattle.spec_clauses.specs.Fact.{Fact, Bad}

-- the number of arguments of a fact that is `bad`; 0 of others
abbrev pub arguments_of : {X : Type 0} → Fact X → ℕ
arguments_of (Bad ts) = length ts
arguments_of _ = 0
