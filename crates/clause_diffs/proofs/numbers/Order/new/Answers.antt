use Rattle.std.proofs.Common.{List, nat_eq, ap, sym, subst, ◌∙◌}
use Rattle.std.specs.Prelude.{ℕ}
use Rattle.spec_clauses.specs.Norm.{distinct}
use Rattle.clause_diffs.specs.Tables.{HasPlaces}
use Rattle.clause_diffs.proofs.numbers.Order.new.Goals as goal

pub invariant_of-result : goal.invariant_of-result
invariant_of-result c =
    subst (λ (l : List ℕ). HasPlaces l) (sym (c.in_ok-places.ensures ∙ (c.in_ok-firsts.ensures ∙ sym (ap (distinct nat_eq) c.deref.ensures.value)))) c.places_fit.ensures
