use Rattle.std.proofs.Common.{◌≡◌, drop}
use Rattle.std.specs.List.{find}
use Rattle.attack_state.specs.Listing.{passes_at}
use Rattle.attack_state.specs.States.{names_id}
use Rattle.attack_state.proofs.values.Names.first.Given as goal

abbrev pub invariant-each : goal.invariant-each
invariant-each l = find (passes_at (names_id l.term) l.self.items.items) (drop l.index-index l.index-items) ≡ find (passes_at (names_id l.term) l.self.items.items) l.index-items
