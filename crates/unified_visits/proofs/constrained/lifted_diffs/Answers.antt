use Rattle.std.proofs.Common.{sym, subst}
use Rattle.term_tree.proofs.BankLaws.{Grows_refl, Grows_trans}
use Rattle.unify_match.proofs.SeenLemmas.{IsReady-grows}
use Rattle.clause_diffs.proofs.Naming.{IsDiffIn-grows}
use Rattle.clause_diffs.proofs.Walks.{diff_known_at}
use Rattle.unified_visits.specs.Solving.{HasBelow}
use Rattle.unified_visits.proofs.Lifting.{none_lifted, lifted_on, all_lifted, own_at}
use Rattle.unified_visits.proofs.Parts.{same_substitution}
use Rattle.unified_visits.proofs.constrained.lifted_diffs.Goals as goal

pub each-init : goal.each-init
each-init g c = none_lifted (g.B.Bank.trees c.args.bank.now) c.args.binds.now.pairs c.args.diffs.now c.in_ok-items.items.items c.in_ok-items.ensures.items

pub lifted_diff-requires-clause-known : goal.lifted_diff-requires-clause-known
lifted_diff-requires-clause-known g c =
    let old = g.B.Bank.trees c.args.bank.now in
    IsDiffIn-grows old (g.B.Bank.trees c.each.bank) c.diff-item.result c.each.invariant.grows (diff_known_at old c.args.diffs.now c.each.diff-index c.diff-item.result c.diff-item.is c.requires.known c.each-test.true)

pub lifted_diff-requires-clause-ready : goal.lifted_diff-requires-clause-ready
lifted_diff-requires-clause-ready g c = IsReady-grows (g.B.Bank.trees c.args.bank.now) (g.B.Bank.trees c.each.bank) c.args.binds.now.pairs c.each.invariant.grows c.requires.ready

pub lifted_diff-requires-clause-below : goal.lifted_diff-requires-clause-below
lifted_diff-requires-clause-below g c =
    subst (λ s. HasBelow s c.args.next) (sym (same_substitution (g.B.Bank.trees c.args.bank.now) (g.B.Bank.trees c.each.bank) c.args.binds.now.pairs c.each.invariant.grows c.requires.ready)) c.requires.below

pub lifted_diff-requires-clause-own : goal.lifted_diff-requires-clause-own
lifted_diff-requires-clause-own g c =
    let old = g.B.Bank.trees c.args.bank.now in
    own_at old (g.B.Bank.trees c.each.bank) c.args.next c.args.diffs.now c.each.diff-index c.diff-item.result c.each.invariant.grows (diff_known_at old c.args.diffs.now c.each.diff-index c.diff-item.result c.diff-item.is c.requires.known c.each-test.true) c.diff-item.is c.each-test.true c.requires.own

pub each-preserved : goal.each-preserved
each-preserved g c =
    let old = g.B.Bank.trees c.args.bank.now in
    lifted_on old (g.B.Bank.trees c.each.bank) (g.B.Bank.trees c.lifted_diff.new.bank) c.args.binds.now.pairs c.args.diffs.now c.each.diff-index c.diff-item.result c.each.items.items c.push.new.self.items c.in_ok-made.made
    c.requires.ready (diff_known_at old c.args.diffs.now c.each.diff-index c.diff-item.result c.diff-item.is c.requires.known c.each-test.true) c.each.invariant c.each-test.true c.diff-item.is c.lifted_diff.ensures.grows c.in_ok-made.ensures.names c.in_ok-push.ensures.items

pub returns-clause-names : goal.returns-clause-names
returns-clause-names g c = all_lifted (g.B.Bank.trees c.args.bank.now) (g.B.Bank.trees c.each.bank) c.args.binds.now.pairs c.args.diffs.now c.each.items.items c.each.diff-index c.each.invariant c.each-test.false

pub returns-in_err-made-clause-grows : goal.returns-in_err-made-clause-grows
returns-in_err-made-clause-grows g c = Grows_trans (g.B.Bank.trees c.args.bank.now) (g.B.Bank.trees c.each.bank) (g.B.Bank.trees c.lifted_diff.new.bank) c.each.invariant.grows c.lifted_diff.ensures.grows

pub returns-in_err-push-clause-grows : goal.returns-in_err-push-clause-grows
returns-in_err-push-clause-grows g c = Grows_trans (g.B.Bank.trees c.args.bank.now) (g.B.Bank.trees c.each.bank) (g.B.Bank.trees c.lifted_diff.new.bank) c.each.invariant.grows c.lifted_diff.ensures.grows

pub returns-in_err-items-clause-grows : goal.returns-in_err-items-clause-grows
returns-in_err-items-clause-grows g c = Grows_refl (g.B.Bank.trees c.args.bank.now)
