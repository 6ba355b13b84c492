use Rattle.std.proofs.Common.{◌∙◌, is_some, ap, sym}
use Rattle.spec_clauses.specs.Diff.{diff_variables}
use Rattle.unify_match.specs.Trail.{id_of}
use Rattle.clause_diffs.specs.Diffs.{diff_at}
use Rattle.fact_placing.proofs.Kept.{one_fails, one_passes, all_pass}
use Rattle.fact_placing.proofs.keeping.are_bound.Goals as goal

pub returns-in-None : goal.returns-in-None
returns-in-None g c =
    one_fails (λ x. is_some (id_of c.args.binds.now.pairs x)) c.deref-number-items.result.now (diff_variables (diff_at (g.B.Bank.trees c.args.board.now.bank.now) c.args.diff.now)) c.each.number-index
    (c.deref-number-items.ensures.value ∙ c.in_ok-numbers.ensures) c.each.invariant c.each-test.true (sym (ap is_some c.in-None.ensures))

pub each-preserved : goal.each-preserved
each-preserved g c =
    one_passes (λ x. is_some (id_of c.args.binds.now.pairs x)) c.deref-number-items.result.now (diff_variables (diff_at (g.B.Bank.trees c.args.board.now.bank.now) c.args.diff.now)) c.each.number-index
    (c.deref-number-items.ensures.value ∙ c.in_ok-numbers.ensures) c.each.invariant c.each-test.true (sym (ap is_some c.in-Some.ensures))

pub returns : goal.returns
returns g c =
    all_pass (λ x. is_some (id_of c.args.binds.now.pairs x)) c.deref-number-items.result.now (diff_variables (diff_at (g.B.Bank.trees c.args.board.now.bank.now) c.args.diff.now)) c.each.number-index
    (c.deref-number-items.ensures.value ∙ c.in_ok-numbers.ensures) c.each.invariant c.each-test.false
