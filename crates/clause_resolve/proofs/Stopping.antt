-- Why no clause was made.
use Rattle.clause_resolve.specs.declared.stop.Stop.{Stop}
use Rattle.clause_resolve.specs.declared.stop.Stop.TheVariants.{Large, Memory}
use Rattle.clause_resolve.specs.Stops.{StopsAt}

-- what is too large makes what it is a part of too large
pub stops_as : (e : Stop) (A B : Type 0) → (A → B) → StopsAt e A → StopsAt e B
stops_as Large A B gives h = gives h
stops_as (Memory error) A B gives h = tt
