use Rattle.term_tree.specs.Bank.{tree_at}
use Rattle.term_tree.proofs.BankLaws.{Grows_refl, Grows_trans}
use Rattle.clause_diffs.proofs.Walks.{known_at}
use Rattle.fact_placing.specs.Matched.{slot_matched, side_matched}
use Rattle.fact_placing.proofs.InCopy.{copied_none, copied_on, copied_all, copied_sides}
use Rattle.fact_placing.proofs.copied.copied_terms.Goals as goal

pub each-init : goal.each-init
each-init g c =
    let all = g.B.Bank.trees c.args.from.now.bank.now in
    copied_none c.args.from.now.next (λ x. side_matched all c.args.from.now.binds.now.pairs c.args.from.now.first (tree_at all x)) c.args.terms.now (g.T.Bank.trees c.args.into.now) c.in_ok-items.items.items c.in_ok-items.ensures.items

pub copied_under-requires-clause-id : goal.copied_under-requires-clause-id
copied_under-requires-clause-id g c = known_at (g.B.Bank.trees c.args.from.now.bank.now) c.args.terms.now c.each.term-index record { index = 0 } c.requires.terms c.each-test.true

pub each-preserved : goal.each-preserved
each-preserved g c =
    let all = g.B.Bank.trees c.args.from.now.bank.now in
    copied_on c.args.from.now.next (λ x. side_matched all c.args.from.now.binds.now.pairs c.args.from.now.first (tree_at all x)) c.args.terms.now (g.T.Bank.trees c.args.into.now) (g.T.Bank.trees c.each.into) (g.T.Bank.trees c.copied_under.new.into) c.each.term-index record { index = 0 }
    c.each.items.items c.push.new.self.items c.in_ok-next.next c.each.invariant c.each-test.true c.copied_under.ensures.grows c.in_ok-next.ensures.names c.in_ok-push.ensures.items

pub returns-clause-names : goal.returns-clause-names
returns-clause-names g c =
    let all = g.B.Bank.trees c.args.from.now.bank.now in
    let pairs = c.args.from.now.binds.now.pairs in
    let first = c.args.from.now.first in
    let next = c.args.from.now.next in
    let now = g.T.Bank.trees c.each.into in
    copied_sides all now next (slot_matched all pairs first) c.args.terms.now c.each.items.items (copied_all next (λ x. side_matched all pairs first (tree_at all x)) c.args.terms.now (g.T.Bank.trees c.args.into.now) now c.each.term-index c.each.items.items c.each.invariant c.each-test.false)

pub returns-in_err-next-clause-grows : goal.returns-in_err-next-clause-grows
returns-in_err-next-clause-grows g c = Grows_trans (g.T.Bank.trees c.args.into.now) (g.T.Bank.trees c.each.into) (g.T.Bank.trees c.copied_under.new.into) c.each.invariant.grows c.copied_under.ensures.grows

pub returns-in_err-push-clause-grows : goal.returns-in_err-push-clause-grows
returns-in_err-push-clause-grows g c = Grows_trans (g.T.Bank.trees c.args.into.now) (g.T.Bank.trees c.each.into) (g.T.Bank.trees c.copied_under.new.into) c.each.invariant.grows c.copied_under.ensures.grows

pub returns-in_err-items-clause-grows : goal.returns-in_err-items-clause-grows
returns-in_err-items-clause-grows g c = Grows_refl (g.T.Bank.trees c.args.into.now)
