use Rattle.std.proofs.Common.{subst, arith}
use Rattle.std.proofs.lemmas.Grind.{common_steps}
use Rattle.spec_terms.specs.Binding.{resolved}
use Rattle.term_tree.specs.Bank.{Names}
use Rattle.term_tree.proofs.BankLaws.{Grows_refl, Grows_trans}
use Rattle.unify_match.specs.Seen.{seen}
use Rattle.unify_match.proofs.SeenLemmas.{IsReady-grows}
use Rattle.clause_form.proofs.Walks.{known_later}
use Rattle.clause_form.proofs.Renumber.{renumbered_on, renumbered_all}
use Rattle.unified_visits.proofs.Building.{AreBuilt-grows}
use Rattle.unified_visits.proofs.Under.{same_under_at}
use Rattle.unified_visits.proofs.unified.all_terms_under.Goals as goal

pub whole_under-requires-clause-known : goal.whole_under-requires-clause-known
whole_under-requires-clause-known g c =
    (known_later (g.B.Bank.trees c.args.bank.now) (g.B.Bank.trees c.each.bank) c.args.terms.now c.each.term-index record { index = 0 } c.each.invariant.grows c.requires.known c.each-test.true).0

pub whole_under-requires-clause-ready : goal.whole_under-requires-clause-ready
whole_under-requires-clause-ready g c = IsReady-grows (g.B.Bank.trees c.args.bank.now) (g.B.Bank.trees c.each.bank) c.args.binds.now.pairs c.each.invariant.grows c.requires.ready

pub whole_under-requires-clause-built : goal.whole_under-requires-clause-built
whole_under-requires-clause-built g c = AreBuilt-grows (g.B.Bank.trees c.args.bank.now) (g.B.Bank.trees c.each.bank) c.args.binds.now.pairs c.args.built.now c.each.invariant.grows c.requires.ready c.requires.built

pub each-preserved : goal.each-preserved
each-preserved g c =
    let old = g.B.Bank.trees c.args.bank.now in
    let now = g.B.Bank.trees c.each.bank in
    let next = g.B.Bank.trees c.whole_under.new.bank in
    let pairs = c.args.binds.now.pairs in
    let made = c.in_ok-made.made in
    let at = known_later old now c.args.terms.now c.each.term-index record { index = 0 } c.each.invariant.grows c.requires.known c.each-test.true in
    renumbered_on old now next (resolved (seen old pairs)) c.args.terms.now c.each.term-index record { index = 0 } c.each.items.items c.push.new.self.items made
    c.each.invariant c.each-test.true c.whole_under.ensures.grows at.1
    (subst (λ t. Names next made t) (same_under_at old now pairs c.each.invariant.grows c.requires.ready _) c.in_ok-made.ensures.names) c.in_ok-push.ensures.items

pub returns-clause-names : goal.returns-clause-names
returns-clause-names g c = renumbered_all (g.B.Bank.trees c.args.bank.now) (g.B.Bank.trees c.each.bank) (resolved (seen (g.B.Bank.trees c.args.bank.now) c.args.binds.now.pairs)) c.args.terms.now c.each.term-index c.each.items.items c.each.invariant c.each-test.false

pub returns-in_err-made-clause-grows : goal.returns-in_err-made-clause-grows
returns-in_err-made-clause-grows g c = Grows_trans (g.B.Bank.trees c.args.bank.now) (g.B.Bank.trees c.each.bank) (g.B.Bank.trees c.whole_under.new.bank) c.each.invariant.grows c.whole_under.ensures.grows

pub returns-in_err-push-clause-grows : goal.returns-in_err-push-clause-grows
returns-in_err-push-clause-grows g c = Grows_trans (g.B.Bank.trees c.args.bank.now) (g.B.Bank.trees c.each.bank) (g.B.Bank.trees c.whole_under.new.bank) c.each.invariant.grows c.whole_under.ensures.grows

pub returns-in_err-items-clause-grows : goal.returns-in_err-items-clause-grows
returns-in_err-items-clause-grows g c = Grows_refl (g.B.Bank.trees c.args.bank.now)

pub each-init : goal.each-init
each-init g c = grind (arith, common_steps)
