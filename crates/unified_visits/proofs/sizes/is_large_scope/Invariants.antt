use Rattle.std.proofs.Common.{◌≡◌, map, drop}
use Rattle.std.specs.List.{list_any}
use Rattle.spec_translation.specs.Visit.{is_large_term}
use Rattle.clause_terms.specs.Scopes.{scope_at}
use Rattle.clause_terms.specs.Slots.{held_of}
use Rattle.unified_visits.proofs.sizes.is_large_scope.Given as goal

abbrev pub invariant-loop-standing : goal.invariant-loop-standing
invariant-loop-standing g l =
    list_any (λ b. is_large_term b.term) (scope_at (g.B.Bank.trees l.bank) (map held_of (drop l.standing-index l.scope))) ≡ list_any (λ b. is_large_term b.term) (scope_at (g.B.Bank.trees l.bank) (map held_of l.scope))
