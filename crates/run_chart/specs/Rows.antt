-- What the rows of a chart tell, in order.
use Rattle.std.specs.Prelude.{ℕ, ◌+◌, zero, suc, nat_eq, cond, Option, None, Some, List, [], ◌∷◌, ◌++◌}
use Rattle.run_chart.specs.declared.chart.Row.{Row}
use Rattle.run_chart.specs.declared.chart.Shape.{Shape}
use Rattle.run_chart.specs.declared.chart.Shape.TheVariants as shape

-- what a row tells
pub data Told : Type 0 where
  -- what the step of that number does; 0 is the start
  Made : (step : ℕ) → Told
  -- the query of that number is violated since that step
  Violated : (query step : ℕ) → Told

-- the query that a row of that shape tells of
abbrev pub query_in : Shape → Option ℕ
query_in (shape.Violation query) = Some query
query_in _ = None

abbrev pub told_by : Option ℕ → ℕ → Told
told_by None step = Made step
told_by (Some query) step = Violated query step

abbrev pub told_of : Row → Told
told_of row = told_by (query_in row.shape) row.step

-- that the query of that number is violated since the step, where that is the first step at which it is
abbrev pub violated_at : ℕ → ℕ → Option ℕ → List Told
violated_at step query None = []
violated_at step query (Some first) = cond (nat_eq first step) (Violated query step ∷ []) []

-- the queries, numbered from that one on, that are violated since the step, by the first steps at which they are
abbrev pub violations : ℕ → ℕ → List (Option ℕ) → List Told
violations step query [] = []
violations step query (first ∷ firsts) = violated_at step query first ++ violations step (query + 1) firsts

-- a step and what is violated since it
abbrev pub told_at : List (Option ℕ) → ℕ → List Told
told_at firsts step = Made step ∷ violations step 1 firsts

-- so many steps, numbered from that one on, each with what is violated since it
abbrev pub told_from : List (Option ℕ) → ℕ → ℕ → List Told
told_from firsts step zero = []
told_from firsts step (suc count) = told_at firsts step ++ told_from firsts (step + 1) count

-- the start and so many steps, each with what is violated since it
abbrev pub told_of_run : List (Option ℕ) → ℕ → List Told
told_of_run firsts count = told_at firsts 0 ++ told_from firsts 1 count
