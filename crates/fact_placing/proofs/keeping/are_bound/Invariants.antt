use Rattle.std.proofs.Common.{◌≡◌, is_some, drop}
use Rattle.std.specs.List.{list_all}
use Rattle.unify_match.specs.Trail.{id_of}
use Rattle.fact_placing.proofs.keeping.are_bound.Given as goal

abbrev pub invariant-each : goal.invariant-each
invariant-each g l = list_all (λ x. is_some (id_of l.binds.pairs x)) l.number-items ≡ list_all (λ x. is_some (id_of l.binds.pairs x)) (drop l.number-index l.number-items)
