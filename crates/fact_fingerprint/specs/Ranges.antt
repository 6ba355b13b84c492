-- What contracts see of positions, and of what may stand there.
use Rattle.std.specs.Prelude.{◌≡◌, ℕ, List, map}
use Rattle.std.specs.Borrow.{Bor}
use Rattle.spec_fingerprints.specs.Fingerprints.{Root, least_of, most_of}
use Rattle.fact_fingerprint.specs.declared.ranges.Range.{Range}

-- the ways of a table
abbrev pub ways_of : List (Bor (List ℕ)) → List (List ℕ)
ways_of ways = map (λ way. way.now) ways

-- the numbers of what stands there are from the least to the greatest of the range
pub record IsRangeOf (root : Root) (range : Range) : Type 0 where
  pub least : range.least ≡ least_of root
  pub most : range.most ≡ most_of root
