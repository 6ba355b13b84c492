use Rattle.std.proofs.Common.{◌∙◌, nat_eq, ap}
use Rattle.spec_clauses.specs.Distinct.{distinct}
use Rattle.clause_diffs.specs.Diffs.{diff_at}
use Rattle.clause_diffs.proofs.Kept.{numbered_told}
use Rattle.clause_diffs.proofs.keeping.is_numbered.Goals as goal

pub returns : goal.returns
returns g c =
    numbered_told (diff_at (g.B.Bank.trees c.args.bank.now) c.args.diff.now) c.in_ok-order.order c.deref.result.now c.are_places.result
    (c.in_ok-order.ensures ∙ ap (distinct nat_eq) c.in_ok-firsts.ensures) (c.deref.ensures.value ∙ c.in_ok-numbers.ensures) c.are_places.ensures
