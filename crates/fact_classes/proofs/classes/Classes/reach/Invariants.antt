use Rattle.std.proofs.Common.{◌≡◌, ◌+◌, ◌-◌, ℕ, [], length, map, get_or}
use Rattle.fact_classes.proofs.classes.Classes.reach.Given as goal

abbrev pub invariant-each : goal.invariant-each
invariant-each l = record {
  lists : (k : ℕ) → get_or (map (λ v. v.items) l.self.lists.items) k [] ≡ get_or (map (λ v. v.items) l.fn.self.lists.items) k [];
  rest : l.self.rest.items ≡ l.fn.self.rest.items;
}

abbrev pub decreases-each : goal.decreases-each
decreases-each l = (l.class + 1) - length l.self.lists.items
