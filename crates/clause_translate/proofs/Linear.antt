-- Well-scoped protocols have linear patterns.
use Rattle.std.proofs.Common.{ℕ, ◌+◌, List, [], ◌∷◌, ◌++◌}
use Rattle.spec_calculus.specs.Syntax.{Name, Made, Process, Nil, Output, Input, Parallel, Replication, New, Let, Event, Phase, Insert, Get, Protocol}
use Rattle.spec_calculus.specs.Points.{point_after}
use Rattle.spec_well_formed.specs.Signature.{Signature, signature_of}
use Rattle.spec_well_formed.specs.Terms.{bound_by, bound_by_row}
use Rattle.spec_well_formed.specs.Processes.{HasLinearPatterns, IsProcessBelow}
use Rattle.spec_well_formed.specs.WellFormed.{IsWellScoped}

linear : (signature : Signature) (bound : List Name) (point : ℕ) (p : Process) → IsProcessBelow signature bound point p → HasLinearPatterns p
linear signature bound point Nil below = tt
linear signature bound point (Output channel message next) below = linear signature bound (point + 1) next below.2
linear signature bound point (Input channel pattern next) below = (below.1.linear, linear signature (bound_by pattern ++ bound) (point + 1) next below.2)
linear signature bound point (Parallel left right) below = (linear signature bound (point + 1) left below.0, linear signature bound (point_after (point + 1) left) right below.1)
linear signature bound point (Replication copied) below = linear signature bound (point + 1) copied below
linear signature bound point (New word next) below = linear signature (Made point ∷ bound) (point + 1) next below.1
linear signature bound point (Let pattern expression next otherwise) below =
    (below.0.linear, linear signature (bound_by pattern ++ bound) (point + 1) next below.2, linear signature bound (point_after (point + 1) next) otherwise below.3)
linear signature bound point (Event performed next) below = linear signature bound (point + 1) next below.1
linear signature bound point (Phase number next) below = linear signature bound (point + 1) next below
linear signature bound point (Insert table arguments next) below = linear signature bound (point + 1) next below.2
linear signature bound point (Get table patterns condition next otherwise) below =
    (below.1.linear, linear signature (bound_by_row patterns ++ bound) (point + 1) next below.3, linear signature bound (point_after (point + 1) next) otherwise below.4)

-- no pattern of a protocol that is well scoped binds a variable twice
pub linear_patterns : (P : Protocol) → IsWellScoped P → HasLinearPatterns P.main
linear_patterns P scoped = linear (signature_of P) [] 1 P.main scoped.process
