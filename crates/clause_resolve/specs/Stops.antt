-- Why no clause was made of a pair.
use Rattle.clause_resolve.specs.declared.stop.Stop.{Stop}
use Rattle.clause_resolve.specs.declared.stop.Stop.TheVariants.{Large, Memory}

-- where it is the size, that it is too large
abbrev pub StopsAt : Stop → Type 0 → Type 0
StopsAt Large too_large = too_large
StopsAt (Memory error) too_large = Unit {0}
