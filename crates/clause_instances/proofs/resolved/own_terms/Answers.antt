use Rattle.std.proofs.Common.{◌≡◌, ◌∙◌, ◌<◌, true, Some, List, ℕ, nat_eq, map, sym, subst, refl, arith, rules}
use Rattle.std.proofs.lemmas.Grind.{common_steps}
use Rattle.std.specs.List.{list_any, AllByRecursion}
use Rattle.spec_calculus.specs.Bounds.{most_symbols}
use Rattle.spec_clauses.specs.Norm.{distinct}
use Rattle.spec_clauses.specs.Variables.{clause_variables}
use Rattle.spec_translation.specs.Visit.{is_large_term}
use Rattle.clause_form.specs.Seen.{clause_at}
use Rattle.clause_instances.specs.Parents.{AreOwnTerms}
use Rattle.clause_instances.proofs.Owning.{own_begins, own_on, own_large, own_ends, each_at, numbers_below, stands_for}
use Rattle.clause_instances.proofs.resolved.own_terms.Goals as goal

pub each-init : goal.each-init
each-init c = own_begins c.args.met.now.binds.pairs c.args.raised c.args.bank.now c.deref-number-items.result.now c.in_ok-items.items.items (search rules)

pub own_term-requires : goal.own_term-requires
own_term-requires c = c.bindings_outlast_growth.ensures.ready c.args.bank.now c.each.bank c.args.met.now.binds.pairs c.each.invariant.grows c.requires.ready

pub overflow_add-number : goal.overflow_add-number
overflow_add-number c =
    let numbers_are : c.deref-number-items.result.now ≡ distinct nat_eq (clause_variables (clause_at c.args.bank.now c.args.clause.now)) = c.deref-number-items.ensures.value ∙ c.in_ok-numbers.ensures in
    let all : AllByRecursion (λ x. x < most_symbols) c.deref-number-items.result.now =
    subst (AllByRecursion (λ x. x < most_symbols)) (sym numbers_are) (numbers_below (clause_at c.args.bank.now c.args.clause.now) most_symbols c.requires.low) in
    let here = each_at (λ x. x < most_symbols) c.deref-number-items.result.now c.each.number-index 0 all c.each-test.true in
    omega (arith, here, c.requires.raised)

pub each-preserved : goal.each-preserved
each-preserved c =
    let told = rw c.in-Some.is at c.in_ok-own_term.ensures.term in
    own_on c.args.met.now.binds.pairs c.args.raised c.args.bank.now c.each.bank c.own_term.new.bank c.deref-number-items.result.now c.each.number-index _ c.each.items.items c.push.new.self.items c.in-Some.term
    c.each.invariant c.each-test.true refl (c.bindings_outlast_growth.ensures.same c.args.bank.now c.each.bank c.args.met.now.binds.pairs c.each.invariant.grows c.requires.ready.known) c.own_term.ensures.grows told.0 told.1 c.in_ok-push-in-Some.ensures.items

pub returns-in-None-clause-terms : goal.returns-in-None-clause-terms
returns-in-None-clause-terms c =
    let told = rw c.in-None.is at c.in_ok-own_term.ensures.term in
    let pairs = c.args.met.now.binds.pairs in
    let old = c.args.bank.now in
    let numbers_are : c.deref-number-items.result.now ≡ distinct nat_eq (clause_variables (clause_at old c.args.clause.now)) = c.deref-number-items.ensures.value ∙ c.in_ok-numbers.ensures in
    let large = own_large pairs c.args.raised old c.each.bank c.deref-number-items.result.now c.each.number-index _ c.each-test.true refl (c.bindings_outlast_growth.ensures.same old c.each.bank pairs c.each.invariant.grows c.requires.ready.known) told in
    subst (λ (xs : List ℕ). list_any is_large_term (map (stands_for pairs c.args.raised old) xs) ≡ true) numbers_are large

pub returns-clause-terms : goal.returns-clause-terms
returns-clause-terms c =
    let pairs = c.args.met.now.binds.pairs in
    let old = c.args.bank.now in
    let numbers_are : c.deref-number-items.result.now ≡ distinct nat_eq (clause_variables (clause_at old c.args.clause.now)) = c.deref-number-items.ensures.value ∙ c.in_ok-numbers.ensures in
    subst (λ (xs : List ℕ). AreOwnTerms c.each.bank (map (stands_for pairs c.args.raised old) xs) (Some c.each.items.items)) numbers_are
    (own_ends pairs c.args.raised old c.each.bank c.deref-number-items.result.now c.each.number-index c.each.items.items c.each.invariant c.each-test.false)

pub returns-in_err-push-in-Some-clause-grows : goal.returns-in_err-push-in-Some-clause-grows
returns-in_err-push-in-Some-clause-grows c = grind (arith, common_steps)

pub returns-in_err-own_term-clause-grows : goal.returns-in_err-own_term-clause-grows
returns-in_err-own_term-clause-grows c = grind (arith, common_steps)

pub returns-in-None-clause-grows : goal.returns-in-None-clause-grows
returns-in-None-clause-grows c = grind (arith, common_steps)

pub returns-in_err-items-clause-grows : goal.returns-in_err-items-clause-grows
returns-in_err-items-clause-grows c = grind (arith, common_steps)
