use Rattle.std.proofs.Common.{arith}
use Rattle.std.proofs.lemmas.Grind.{common_steps}
use Rattle.spec_terms.specs.Unifier.{moved}
use Rattle.spec_calculus.specs.Bounds.{most_symbols}
use Rattle.term_tree.proofs.BankLaws.{Grows_trans}
use Rattle.clause_diffs.proofs.Naming.{IsDiffIn-grows}
use Rattle.clause_diffs.proofs.Walks.{diff_known_at}
use Rattle.clause_diffs.proofs.Below.{diff_below-grows, diff_below_at}
use Rattle.clause_resolve.proofs.Moving.{diffs_moved_none, diffs_moved_on, diffs_under_all}
use Rattle.clause_resolve.proofs.apart.shifted_diffs.Goals as goal

pub each-init : goal.each-init
each-init g c = diffs_moved_none (g.B.Bank.trees c.args.bank.now) c.args.diffs.now c.in_ok-items.items.items c.in_ok-items.ensures.items

pub shifted_diff-requires-clause-known : goal.shifted_diff-requires-clause-known
shifted_diff-requires-clause-known g c =
    let old = g.B.Bank.trees c.args.bank.now in
    IsDiffIn-grows old (g.B.Bank.trees c.each.bank) c.diff-item.result c.each.invariant.done.grows (diff_known_at old c.args.diffs.now c.each.diff-index c.diff-item.result c.diff-item.is c.requires.known c.each-test.true)

pub shifted_diff-requires-clause-low : goal.shifted_diff-requires-clause-low
shifted_diff-requires-clause-low g c =
    let old = g.B.Bank.trees c.args.bank.now in
    let known = diff_known_at old c.args.diffs.now c.each.diff-index c.diff-item.result c.diff-item.is c.requires.known c.each-test.true in
    diff_below-grows most_symbols old (g.B.Bank.trees c.each.bank) c.diff-item.result c.each.invariant.done.grows known (diff_below_at most_symbols old c.args.diffs.now c.each.diff-index c.diff-item.result c.diff-item.is c.requires.low c.each-test.true)

pub each-preserved : goal.each-preserved
each-preserved g c =
    let old = g.B.Bank.trees c.args.bank.now in
    diffs_moved_on old (g.B.Bank.trees c.each.bank) (g.B.Bank.trees c.shifted_diff.new.bank) c.args.diffs.now c.each.diff-index c.diff-item.result c.each.items.items c.push.new.self.items c.in_ok-next.next c.each.invariant c.each-test.true c.diff-item.is
    (diff_known_at old c.args.diffs.now c.each.diff-index c.diff-item.result c.diff-item.is c.requires.known c.each-test.true) c.shifted_diff.ensures.grows c.in_ok-next.ensures.names c.in_ok-next.ensures.low c.in_ok-push.ensures.items

pub returns-clause-names : goal.returns-clause-names
returns-clause-names g c = diffs_under_all (g.B.Bank.trees c.args.bank.now) (g.B.Bank.trees c.each.bank) (moved most_symbols) c.args.diffs.now c.each.diff-index c.each.items.items c.each.invariant.done c.each-test.false

pub returns-clause-low : goal.returns-clause-low
returns-clause-low g c = c.each.invariant.below

pub returns-in_err-next-clause-grows : goal.returns-in_err-next-clause-grows
returns-in_err-next-clause-grows g c = Grows_trans (g.B.Bank.trees c.args.bank.now) (g.B.Bank.trees c.each.bank) (g.B.Bank.trees c.shifted_diff.new.bank) c.each.invariant.done.grows c.shifted_diff.ensures.grows

pub returns-in_err-push-clause-grows : goal.returns-in_err-push-clause-grows
returns-in_err-push-clause-grows g c = Grows_trans (g.B.Bank.trees c.args.bank.now) (g.B.Bank.trees c.each.bank) (g.B.Bank.trees c.shifted_diff.new.bank) c.each.invariant.done.grows c.shifted_diff.ensures.grows

pub returns-in_err-items-clause-grows : goal.returns-in_err-items-clause-grows
returns-in_err-items-clause-grows g c = grind (arith, common_steps)
