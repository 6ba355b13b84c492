-- The numbers that the new variables of a pattern take.
use Rattle.std.specs.Prelude.{◌≡◌, ℕ, ◌+◌, ◌-◌, ◌<◌, ◌≤◌, List}
use Rattle.std.specs.List.{AllByRecursion}
use Rattle.unified_visits.specs.declared.spans.Span.{Span}
use Rattle.unified_visits.specs.Room.{most_next}

-- new variables for the numbers begin at the base, and all are below the next one
pub record IsSpan (from : ℕ) (numbers : List ℕ) (span : Span) : Type 0 where
  pub base : span.at.base ≡ from
  pub up : from ≤ span.next
  pub few : span.next ≤ most_next
  pub from_first : AllByRecursion (λ i. span.at.first ≤ i) numbers
  pub room : AllByRecursion (λ i. from + (i - span.at.first) < span.next) numbers
