-- How many points and variables there may be.
use Rattle.std.specs.Prelude.{ℕ, ◌+◌, ◌-◌, ◌*◌, ◌^◌, ◌≤◌}
use Rattle.spec_calculus.specs.Bounds.{most_bytes, most_points}

-- the most variables of a pattern, rule or query
abbrev pub most_bound : ℕ
most_bound = most_bytes - 1

-- the greatest number that a variable may have
abbrev pub most_variables : ℕ
most_variables = 2 ^ 32 - 1

-- there is a point more to come, or they are all there; no point so far bound more variables than a pattern may
pub record AreWithin (point variable : ℕ) : Type 0 where
  pub points : point ≤ most_points + 1
  pub variables : variable + most_bound ≤ 1 + point * most_bound
