use Rattle.spec_calculus.specs.Bounds.{most_symbols}
use Rattle.spec_terms.specs.Binding.{resolved}
use Rattle.unify_match.specs.Seen.{seen}
use Rattle.unify_match.proofs.SeenLemmas.{IsReady-grows}
use Rattle.unified_visits.proofs.Scopes.{scope_known_at, scope_known_later}
use Rattle.unified_visits.proofs.Standing.{stood_on, stood_all, standing_over_at}
use Rattle.unified_visits.proofs.Under.{over_later, names_later}
use Rattle.term_tree.proofs.BankLaws.{Grows_trans}
use Rattle.unified_visits.proofs.unified.scope_under.Goals as goal

pub term_under-requires-clause-known : goal.term_under-requires-clause-known
term_under-requires-clause-known g c =
    scope_known_later (g.B.Bank.trees c.args.bank.now) (g.B.Bank.trees c.each.bank) c.args.scope.now c.each.standing-index _ c.each.invariant.0.grows c.requires.known c.each-test.true

pub term_under-requires-clause-ready : goal.term_under-requires-clause-ready
term_under-requires-clause-ready g c = IsReady-grows (g.B.Bank.trees c.args.bank.now) (g.B.Bank.trees c.each.bank) c.args.binds.now.pairs c.each.invariant.0.grows c.requires.ready

pub returns-in-None-clause-under : goal.returns-in-None-clause-under
returns-in-None-clause-under g c =
    let old = g.B.Bank.trees c.args.bank.now in
    standing_over_at old (resolved (seen old c.args.binds.now.pairs)) c.args.scope.now c.each.standing-index _ most_symbols c.each-test.true
    (over_later old (g.B.Bank.trees c.each.bank) c.args.binds.now.pairs c.each.invariant.0.grows c.requires.ready (g.B.Bank.trees c.term_under.new.bank) _ c.in_ok-term_under.field-0
    (scope_known_at old c.args.scope.now c.each.standing-index _ c.requires.known c.each-test.true) c.in-None.is c.in_ok-term_under.ensures.under)

pub each-preserved : goal.each-preserved
each-preserved g c =
    let old = g.B.Bank.trees c.args.bank.now in (
      stood_on old (g.B.Bank.trees c.each.bank) (g.B.Bank.trees c.term_under.new.bank) (resolved (seen old c.args.binds.now.pairs)) c.args.scope.now c.each.standing-index _ c.each.items.items c.push.new.self.items c.in-Some.term
          c.each.invariant.0 c.each-test.true c.term_under.ensures.grows
          (names_later old (g.B.Bank.trees c.each.bank) c.args.binds.now.pairs c.each.invariant.0.grows c.requires.ready (g.B.Bank.trees c.term_under.new.bank) _ c.in-Some.term c.in_ok-term_under.field-0
          (scope_known_at old c.args.scope.now c.each.standing-index _ c.requires.known c.each-test.true) c.in-Some.is c.in_ok-term_under.ensures.under)
          c.in_ok-push-in-Some.ensures.items,
      c.in_ok-term_under.ensures.built,
    )

pub returns-clause-under : goal.returns-clause-under
returns-clause-under g c =
    let old = g.B.Bank.trees c.args.bank.now in
    stood_all old (g.B.Bank.trees c.each.bank) (resolved (seen old c.args.binds.now.pairs)) c.args.scope.now c.each.standing-index c.each.items.items c.each.invariant.0 c.each-test.false

pub returns-in_err-term_under-clause-grows : goal.returns-in_err-term_under-clause-grows
returns-in_err-term_under-clause-grows g c = Grows_trans (g.B.Bank.trees c.args.bank.now) (g.B.Bank.trees c.each.bank) (g.B.Bank.trees c.term_under.new.bank) c.each.invariant.0.grows c.term_under.ensures.grows

pub returns-in-None-clause-grows : goal.returns-in-None-clause-grows
returns-in-None-clause-grows g c = Grows_trans (g.B.Bank.trees c.args.bank.now) (g.B.Bank.trees c.each.bank) (g.B.Bank.trees c.term_under.new.bank) c.each.invariant.0.grows c.term_under.ensures.grows

pub returns-in_err-push-in-Some-clause-grows : goal.returns-in_err-push-in-Some-clause-grows
returns-in_err-push-in-Some-clause-grows g c = Grows_trans (g.B.Bank.trees c.args.bank.now) (g.B.Bank.trees c.each.bank) (g.B.Bank.trees c.term_under.new.bank) c.each.invariant.0.grows c.term_under.ensures.grows
