use Rattle.std.proofs.Common.{◌≡◌, nat_eq, drop}
use Rattle.std.specs.List.{list_all}
use Rattle.spec_clauses.specs.Distinct.{place_of}
use Rattle.clause_diffs.proofs.keeping.are_places.Given as goal

abbrev pub invariant-loop-number : goal.invariant-loop-number
invariant-loop-number l = list_all (λ i. nat_eq (place_of i l.order) i) l.numbers ≡ list_all (λ i. nat_eq (place_of i l.order) i) (drop l.number-index l.numbers)
