use Rattle.std.proofs.Common.{◌≡◌, List, map, ap, sym, subst, ◌∙◌, arith}
use Rattle.std.proofs.lemmas.Grind.{common_steps}
use Rattle.spec_trees.specs.Tree.{node}
use Rattle.spec_calculus.specs.Bounds.{most_symbols}
use Rattle.spec_terms.specs.Binding.{resolved}
use Rattle.spec_terms.specs.Term.{Term}
use Rattle.term_tree.specs.Bank.{symbol_of, tree_at, AreKnown, Names}
use Rattle.term_tree.specs.declared.bank.Id.{Id}
use Rattle.term_tree.proofs.BankLaws.{Grows_trans, Grows_refl}
use Rattle.unify_match.specs.Seen.{seen}
use Rattle.unify_match.proofs.SeenLemmas.{IsReady-grows}
use Rattle.clause_form.proofs.Walks.{known_at, known_later}
use Rattle.clause_form.proofs.Renumber.{renumbered_on, renumbered_all, renumbered_node}
use Rattle.unified_visits.proofs.Under.{over_later, names_at, some_over_at}
use Rattle.unified_visits.proofs.Building.{built_more, application_over, application_later, depth_at}
use Rattle.unified_visits.proofs.substituted.+under.Goals as goal

pub terms_under-term_under-requires : goal.terms_under-term_under-requires
terms_under-term_under-requires g t c κs within =
    let old = g.B.Bank.trees c.args.bank.now in
    let now = g.B.Bank.trees c.each.bank in
    let grows = c.each.invariant.row.grows in
    let lower = depth_at old now c.args.terms.now c.each.term-index record { index = 0 } grows c.requires.known c.each-test.true in
    (omega (arith, c.decreases, lower), (within, ((known_later old now c.args.terms.now c.each.term-index record { index = 0 } grows c.requires.known c.each-test.true).0, (IsReady-grows old now c.args.binds.now.pairs grows c.requires.ready, c.each.invariant.so_far))))

pub terms_under-returns-in-None-clause-under : goal.terms_under-returns-in-None-clause-under
terms_under-returns-in-None-clause-under g t c =
    let old = g.B.Bank.trees c.args.bank.now in
    some_over_at old (resolved (seen old c.args.binds.now.pairs)) c.args.terms.now c.each.term-index record { index = 0 } most_symbols c.each-test.true
    (over_later old (g.B.Bank.trees c.each.bank) c.args.binds.now.pairs c.each.invariant.row.grows c.requires.ready (g.B.Bank.trees c.term_under.new.bank) _ c.in_ok-term_under.field-0
    (known_at old c.args.terms.now c.each.term-index record { index = 0 } c.requires.known c.each-test.true) c.in-None.is c.in_ok-term_under.ensures.under)

pub terms_under-each-preserved : goal.terms_under-each-preserved
terms_under-each-preserved g t c =
    let old = g.B.Bank.trees c.args.bank.now in
    let now = g.B.Bank.trees c.each.bank in
    let at = known_later old now c.args.terms.now c.each.term-index record { index = 0 } c.each.invariant.row.grows c.requires.known c.each-test.true in
    record {
      row = renumbered_on old now (g.B.Bank.trees c.term_under.new.bank) (resolved (seen old c.args.binds.now.pairs)) c.args.terms.now c.each.term-index record { index = 0 } c.each.items.items c.push.new.self.items c.in-Some.made
          c.each.invariant.row c.each-test.true c.term_under.ensures.grows at.1
          (names_at old now c.args.binds.now.pairs c.each.invariant.row.grows c.requires.ready (g.B.Bank.trees c.term_under.new.bank) _ c.in-Some.made c.in_ok-term_under.field-0 c.in-Some.is c.in_ok-term_under.ensures.under)
          c.in_ok-push-in-Some.ensures.items;
      so_far = c.in_ok-term_under.ensures.built;
    }

pub terms_under-returns-clause-under : goal.terms_under-returns-clause-under
terms_under-returns-clause-under g t c =
    let old = g.B.Bank.trees c.args.bank.now in
    renumbered_all old (g.B.Bank.trees c.each.bank) (resolved (seen old c.args.binds.now.pairs)) c.args.terms.now c.each.term-index c.each.items.items c.each.invariant.row c.each-test.false

pub term_under-returns-in-Some-clause-under : goal.term_under-returns-in-Some-clause-under
term_under-returns-in-Some-clause-under g t c = (c.requires.built c.args.id c.in-Some.made (sym c.of.ensures ∙ c.in-Some.is)).names

pub term_under-returns-in-None-2-clause-under : goal.term_under-returns-in-None-2-clause-under
term_under-returns-in-None-2-clause-under g t c =
    let old = g.B.Bank.trees c.args.bank.now in
    let f = symbol_of c.in-App.symbol in
    let parts : c.deref.result.now ≡ c.in-App.parts.now = c.deref.ensures.value ∙ c.in_ok-arguments-in-App.ensures.items_if_clones_equal (λ a b e. e) in
    let is = c.in-App.ensures.0 ∙ ap (λ (l : List Id). node f (map (tree_at old) l)) (sym parts) in
    let over = rw c.in-None-2.is at c.in_ok-terms_under-in-App.ensures.under in
    application_over (resolved (seen old c.args.binds.now.pairs)) old c.args.id f c.deref.result.now is over

pub term_under-applied-requires-clause-id : goal.term_under-applied-requires-clause-id
term_under-applied-requires-clause-id g t c =
    let old = g.B.Bank.trees c.args.bank.now in
    let f = symbol_of c.in-App.symbol in
    let parts : c.deref-in-Some-2.result.now ≡ c.in-App.parts.now = c.deref-in-Some-2.ensures.value ∙ c.in_ok-arguments-in-App.ensures.items_if_clones_equal (λ a b e. e) in
    let is = c.in-App.ensures.0 ∙ ap (λ (l : List Id). node f (map (tree_at old) l)) (sym parts) in
    application_later old (g.B.Bank.trees c.terms_under.new.bank) c.args.id f c.deref-in-Some-2.result.now c.terms_under.ensures.grows c.requires.known (subst (λ (l : List Id). AreKnown old l) (sym parts) c.in-App.ensures.1) is

pub term_under-returns-clause-under : goal.term_under-returns-clause-under
term_under-returns-clause-under g t c =
    let old = g.B.Bank.trees c.args.bank.now in
    let mid = g.B.Bank.trees c.terms_under.new.bank in
    let f = symbol_of c.in-App.symbol in
    let s = resolved (seen old c.args.binds.now.pairs) in
    let made = c.in_ok-made-in-Some-2.made in
    let parts : c.deref.result.now ≡ c.in-App.parts.now = c.deref.ensures.value ∙ c.in_ok-arguments-in-App.ensures.items_if_clones_equal (λ a b e. e) in
    let is = c.in-App.ensures.0 ∙ ap (λ (l : List Id). node f (map (tree_at old) l)) (sym parts) in
    let row = rw c.in-Some-2.is at c.in_ok-terms_under-in-App.ensures.under in
    let now : c.deref-in-Some-2-2.result.now ≡ c.in-Some-2.now = c.deref-in-Some-2-2.ensures.value ∙ c.now.view_is in
    subst (λ (u : Term). Names (g.B.Bank.trees c.applied.new.bank) made u)
    (ap (λ (l : List Id). node f (map (tree_at mid) l)) now ∙ renumbered_node old mid s c.args.id f c.deref.result.now c.in-Some-2.now is row) c.in_ok-made-in-Some-2.ensures.names

pub term_under-returns-clause-built : goal.term_under-returns-clause-built
term_under-returns-clause-built g t c =
    let old = g.B.Bank.trees c.args.bank.now in
    let mid = g.B.Bank.trees c.terms_under.new.bank in
    let new = g.B.Bank.trees c.applied.new.bank in
    let pairs = c.args.binds.now.pairs in
    let more = c.terms_under.ensures.grows in
    built_more old mid new pairs c.terms_under.new.built c.put.new.self c.args.id c.in_ok-made-in-Some-2.made (Grows_trans old mid new more c.applied.ensures.grows) c.applied.ensures.grows
    c.requires.ready (IsReady-grows old mid pairs more c.requires.ready) c.requires.known c.in_ok-terms_under-in-App.ensures.built (term_under-returns-clause-under g t c) c.in_ok-put-in-Some-2.ensures

pub terms_under-returns-in_err-term_under-clause-grows : goal.terms_under-returns-in_err-term_under-clause-grows
terms_under-returns-in_err-term_under-clause-grows g t c = Grows_trans (g.B.Bank.trees c.args.bank.now) (g.B.Bank.trees c.each.bank) (g.B.Bank.trees c.term_under.new.bank) c.each.invariant.row.grows c.term_under.ensures.grows

pub terms_under-returns-in-None-clause-grows : goal.terms_under-returns-in-None-clause-grows
terms_under-returns-in-None-clause-grows g t c = Grows_trans (g.B.Bank.trees c.args.bank.now) (g.B.Bank.trees c.each.bank) (g.B.Bank.trees c.term_under.new.bank) c.each.invariant.row.grows c.term_under.ensures.grows

pub terms_under-returns-in_err-push-in-Some-clause-grows : goal.terms_under-returns-in_err-push-in-Some-clause-grows
terms_under-returns-in_err-push-in-Some-clause-grows g t c = Grows_trans (g.B.Bank.trees c.args.bank.now) (g.B.Bank.trees c.each.bank) (g.B.Bank.trees c.term_under.new.bank) c.each.invariant.row.grows c.term_under.ensures.grows

pub term_under-returns-in_err-made-in-Some-2-clause-grows : goal.term_under-returns-in_err-made-in-Some-2-clause-grows
term_under-returns-in_err-made-in-Some-2-clause-grows g t c = Grows_trans (g.B.Bank.trees c.args.bank.now) (g.B.Bank.trees c.terms_under.new.bank) (g.B.Bank.trees c.applied.new.bank) c.terms_under.ensures.grows c.applied.ensures.grows

pub term_under-returns-in_err-put-in-Some-2-clause-grows : goal.term_under-returns-in_err-put-in-Some-2-clause-grows
term_under-returns-in_err-put-in-Some-2-clause-grows g t c = Grows_trans (g.B.Bank.trees c.args.bank.now) (g.B.Bank.trees c.terms_under.new.bank) (g.B.Bank.trees c.applied.new.bank) c.terms_under.ensures.grows c.applied.ensures.grows

pub term_under-returns-clause-grows : goal.term_under-returns-clause-grows
term_under-returns-clause-grows g t c = Grows_trans (g.B.Bank.trees c.args.bank.now) (g.B.Bank.trees c.terms_under.new.bank) (g.B.Bank.trees c.applied.new.bank) c.terms_under.ensures.grows c.applied.ensures.grows

pub term_under-returns-in_err-arguments-in-App-clause-grows : goal.term_under-returns-in_err-arguments-in-App-clause-grows
term_under-returns-in_err-arguments-in-App-clause-grows g t c = Grows_refl (g.B.Bank.trees c.args.bank.now)

pub term_under-returns-in-Some-clause-grows : goal.term_under-returns-in-Some-clause-grows
term_under-returns-in-Some-clause-grows g t c = Grows_refl (g.B.Bank.trees c.args.bank.now)

pub term_under-returns-in_err-terms_under-in-App-clause-grows : goal.term_under-returns-in_err-terms_under-in-App-clause-grows
term_under-returns-in_err-terms_under-in-App-clause-grows g t c = c.terms_under.ensures.grows

pub term_under-returns-in-None-2-clause-grows : goal.term_under-returns-in-None-2-clause-grows
term_under-returns-in-None-2-clause-grows g t c = c.terms_under.ensures.grows

pub term_under-returns-in-None-2-clause-built : goal.term_under-returns-in-None-2-clause-built
term_under-returns-in-None-2-clause-built g t c = c.in_ok-terms_under-in-App.ensures.built

pub terms_under-returns-in-None-clause-built : goal.terms_under-returns-in-None-clause-built
terms_under-returns-in-None-clause-built g t c = c.in_ok-term_under.ensures.built

pub term_under-applied-requires-clause-known : goal.term_under-applied-requires-clause-known
term_under-applied-requires-clause-known g t c =
    let row = rw c.in-Some-2.is at c.in_ok-terms_under-in-App.ensures.under in
    let now : c.deref-in-Some-2-2.result.now ≡ c.in-Some-2.now = c.deref-in-Some-2-2.ensures.value ∙ c.now.view_is in
    subst (λ (l : List Id). AreKnown (g.B.Bank.trees c.terms_under.new.bank) l) (sym now) row.known

pub term_under-terms_under-requires : goal.term_under-terms_under-requires
term_under-terms_under-requires g t c = grind (arith, common_steps)

pub terms_under-each-init : goal.terms_under-each-init
terms_under-each-init g t c = grind (arith, common_steps)
