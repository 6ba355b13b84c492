use Rattle.std.proofs.Common.{◌≡◌, drop}
use Rattle.std.specs.List.{find}
use Rattle.spec_calculus.specs.Values.{same_value}
use Rattle.pi_tree.specs.Values.{value_of}
use Rattle.attack_state.specs.Listing.{passes_at}
use Rattle.attack_state.proofs.values.Known.first_place.Given as goal

abbrev pub invariant-each : goal.invariant-each
invariant-each l = find (passes_at (same_value (value_of l.value)) l.known) (drop l.index-index l.index-items) ≡ find (passes_at (same_value (value_of l.value)) l.known) l.index-items
