use Rattle.std.proofs.Common.{sym, subst, arith}
use Rattle.std.proofs.lemmas.Result.{err_from_is_err_and}
use Rattle.unify_match.proofs.SeenLemmas.{IsReady-grows}
use Rattle.clause_diffs.proofs.Naming.{IsDiffIn-grows}
use Rattle.clause_diffs.proofs.Walks.{diff_known_at}
use Rattle.clause_resolve.specs.Low.{bound_from, KeepsBelow}
use Rattle.clause_resolve.proofs.Stopping.{stops_as}
use Rattle.clause_diffs.proofs.Below.{diff_below-grows, diff_below_at}
use Rattle.clause_resolve.proofs.SpendingLaws.{standing, stands}
use Rattle.clause_resolve.proofs.LiftingLaws.{diffs_applied_none, diffs_applied_on, diffs_short, diffs_applied}
use Rattle.term_tree.proofs.BankLaws.{Grows_refl, Grows_trans}
use Rattle.clause_resolve.proofs.lifting.applied_diffs.Goals as goal

pub each-init : goal.each-init
each-init g c = diffs_applied_none (g.B.Bank.trees c.args.bank.now) (standing (g.B.Bank.trees c.args.bank.now) c.args.binds.now.pairs) c.args.diffs.now c.in_ok-items.items.items c.args.left.now c.in_ok-items.ensures.items

pub applied_diff-requires-clause-known : goal.applied_diff-requires-clause-known
applied_diff-requires-clause-known g c =
    let old = g.B.Bank.trees c.args.bank.now in
    IsDiffIn-grows old (g.B.Bank.trees c.each.bank) c.diff-item.result c.each.invariant.done.grows (diff_known_at old c.args.diffs.now c.each.diff-index c.diff-item.result c.diff-item.is c.requires.known c.each-test.true)

pub applied_diff-requires-clause-ready : goal.applied_diff-requires-clause-ready
applied_diff-requires-clause-ready g c = IsReady-grows (g.B.Bank.trees c.args.bank.now) (g.B.Bank.trees c.each.bank) c.args.binds.now.pairs c.each.invariant.done.grows c.requires.ready

pub applied_diff-requires-clause-low : goal.applied_diff-requires-clause-low
applied_diff-requires-clause-low g c =
    let old = g.B.Bank.trees c.args.bank.now in
    let known = diff_known_at old c.args.diffs.now c.each.diff-index c.diff-item.result c.diff-item.is c.requires.known c.each-test.true in
    diff_below-grows bound_from old (g.B.Bank.trees c.each.bank) c.diff-item.result c.each.invariant.done.grows known (diff_below_at bound_from old c.args.diffs.now c.each.diff-index c.diff-item.result c.diff-item.is c.requires.low c.each-test.true)

pub applied_diff-requires-clause-kept : goal.applied_diff-requires-clause-kept
applied_diff-requires-clause-kept g c =
    subst (KeepsBelow bound_from) (sym (stands (g.B.Bank.trees c.args.bank.now) (g.B.Bank.trees c.each.bank) c.args.binds.now.pairs c.each.invariant.done.grows c.requires.ready)) c.requires.kept

pub applied_diff-requires-clause-small : goal.applied_diff-requires-clause-small
applied_diff-requires-clause-small g c = omega (arith, c.each.invariant.spent, c.requires.small)

pub each-preserved : goal.each-preserved
each-preserved g c =
    let old = g.B.Bank.trees c.args.bank.now in
    diffs_applied_on old (g.B.Bank.trees c.each.bank) (g.B.Bank.trees c.applied_diff.new.bank) c.args.binds.now.pairs c.args.diffs.now c.each.diff-index c.diff-item.result c.each.items.items c.push.new.self.items c.in_ok-next.next c.args.left.now c.each.left c.applied_diff.new.left
    c.requires.ready c.each.invariant c.each-test.true c.diff-item.is (diff_known_at old c.args.diffs.now c.each.diff-index c.diff-item.result c.diff-item.is c.requires.known c.each-test.true) c.applied_diff.ensures.grows c.in_ok-next.ensures.outcome c.in_ok-push.ensures.items

pub returns-clause-outcome : goal.returns-clause-outcome
returns-clause-outcome g c = diffs_applied (g.B.Bank.trees c.args.bank.now) (g.B.Bank.trees c.each.bank) (standing (g.B.Bank.trees c.args.bank.now) c.args.binds.now.pairs) c.args.diffs.now c.each.diff-index c.each.items.items c.args.left.now c.each.left c.each.invariant c.each-test.false

pub returns-in_err-next-clause-outcome : goal.returns-in_err-next-clause-outcome
returns-in_err-next-clause-outcome g c =
    let old = g.B.Bank.trees c.args.bank.now in
    let p = err_from_is_err_and c.from_residual-in_err-next.result c.from_residual-in_err-next.ensures.1 in
    rw (p.1, p.2) (stops_as c.in_err-next.field-0.0 _ _ (diffs_short old (g.B.Bank.trees c.each.bank) c.args.binds.now.pairs c.args.diffs.now c.each.diff-index c.diff-item.result c.each.items.items c.args.left.now c.each.left c.requires.ready c.each.invariant c.each-test.true c.diff-item.is
    (diff_known_at old c.args.diffs.now c.each.diff-index c.diff-item.result c.diff-item.is c.requires.known c.each-test.true)) c.in_err-next.ensures.outcome)

pub returns-in_err-next-clause-grows : goal.returns-in_err-next-clause-grows
returns-in_err-next-clause-grows g c = Grows_trans (g.B.Bank.trees c.args.bank.now) (g.B.Bank.trees c.each.bank) (g.B.Bank.trees c.applied_diff.new.bank) c.each.invariant.done.grows c.applied_diff.ensures.grows

pub returns-in_err-push-clause-grows : goal.returns-in_err-push-clause-grows
returns-in_err-push-clause-grows g c = Grows_trans (g.B.Bank.trees c.args.bank.now) (g.B.Bank.trees c.each.bank) (g.B.Bank.trees c.applied_diff.new.bank) c.each.invariant.done.grows c.applied_diff.ensures.grows

pub returns-in_err-items-clause-grows : goal.returns-in_err-items-clause-grows
returns-in_err-items-clause-grows g c = Grows_refl (g.B.Bank.trees c.args.bank.now)
