-- What the sums over hypotheses count, and numbers as they are told.
use Rattle.std.specs.Prelude.{ℕ, ◌+◌, ◌-◌, ◌^◌, min, List}
use Rattle.spec_terms.specs.Term.{Term}
use Rattle.spec_clauses.specs.Fact.{Fact, total}
use Rattle.spec_features.specs.Features.{one_if, number_of, fact_symbols}
use Rattle.spec_features.specs.Features as features
use Rattle.feature_index.specs.declared.clause_features.Lane.{Lane}
use Rattle.feature_index.specs.declared.clause_features.Lane.TheVariants.{Att, Mess, Ev, Mev, Symbols}

-- what a hypothesis adds to a lane
abbrev pub weight : Lane → Fact Term → ℕ
weight Att f = one_if features.Att f
weight Mess f = one_if features.Mess f + one_if features.Tab f
weight Ev f = one_if features.Ev f
weight Mev f = one_if features.Mev f
weight Symbols f = fact_symbols f

-- a lane of hypotheses
abbrev pub sum_of : Lane → List (Fact Term) → ℕ
sum_of Att hs = number_of features.Att hs
sum_of Mess hs = number_of features.Mess hs + number_of features.Tab hs
sum_of Ev hs = number_of features.Ev hs
sum_of Mev hs = number_of features.Mev hs
sum_of Symbols hs = total fact_symbols hs

-- a number as it is told: the greatest of 64 bits where it is greater
abbrev pub told : ℕ → ℕ
told n = min n (2 ^ 64 - 1)
