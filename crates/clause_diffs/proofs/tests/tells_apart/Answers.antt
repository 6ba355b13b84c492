use Rattle.std.proofs.Common.{◌∙◌, ℕ, List, [], nat_eq, ap, sym, refl, subst}
use Rattle.std.specs.List.{list_any}
use Rattle.std.proofs.lemmas.Bool.{false≢true}
use Rattle.spec_terms.specs.Binding.{resolved}
use Rattle.spec_clauses.specs.Distinct.{distinct}
use Rattle.unify_match.specs.Seen.{seen}
use Rattle.clause_diffs.specs.Diffs.{shown_at}
use Rattle.clause_diffs.proofs.Telling.{AreTold, told_none, all_told, told_next, none_at, taken_at}
use Rattle.clause_diffs.proofs.tests.tells_apart.Goals as goal

pub each-init : goal.each-init
each-init g c =
    let s = resolved (seen (g.B.Bank.trees c.args.bank.now) c.args.binds.now.pairs) in
    subst (λ (l : List ℕ). AreTold s [] l) (sym c.in_ok-taken.ensures.items) (told_none s)

pub returns-then-is_number_among : goal.returns-then-is_number_among
returns-then-is_number_among g c =
    let all = g.B.Bank.trees c.args.bank.now in
    let s = resolved (seen all c.args.binds.now.pairs) in
    let own = c.deref-number-items.ensures.value ∙ (c.in_ok-own.ensures ∙ ap (distinct nat_eq) c.in_ok-all.ensures) in
    let has = sym (c.is_number_among.ensures ∙ ap (list_any (nat_eq c.in-Some.value)) c.deref.ensures.value) ∙ c.if-is_number_among.true in (
      λ e. absurd (false≢true e),
      λ told. absurd (taken_at s (shown_at all c.args.diff.now) c.deref-number-items.result.now c.each.taken.items c.each.number-index c.in-Some.value own c.each-test.true c.each.invariant c.in-Some.ensures has told),
    )

pub returns-in-None : goal.returns-in-None
returns-in-None g c =
    let all = g.B.Bank.trees c.args.bank.now in
    let s = resolved (seen all c.args.binds.now.pairs) in
    let own = c.deref-number-items.ensures.value ∙ (c.in_ok-own.ensures ∙ ap (distinct nat_eq) c.in_ok-all.ensures) in (
      λ e. absurd (false≢true e),
      λ told. absurd (none_at s (shown_at all c.args.diff.now) c.deref-number-items.result.now c.each.number-index own c.each-test.true c.in-None.ensures told),
    )

pub each-preserved : goal.each-preserved
each-preserved g c =
    let s = resolved (seen (g.B.Bank.trees c.args.bank.now) c.args.binds.now.pairs) in
    let free = sym (c.is_number_among.ensures ∙ ap (list_any (nat_eq c.in-Some.value)) c.deref.ensures.value) ∙ c.if-is_number_among.false in
    told_next s c.deref-number-items.result.now c.each.taken.items c.push.new.self.items c.each.number-index c.in-Some.value c.each.invariant c.each-test.true c.in-Some.ensures free c.in_ok-push-in-Some.ensures.items

pub returns : goal.returns
returns g c =
    let all = g.B.Bank.trees c.args.bank.now in
    let s = resolved (seen all c.args.binds.now.pairs) in
    let own = c.deref-number-items.ensures.value ∙ (c.in_ok-own.ensures ∙ ap (distinct nat_eq) c.in_ok-all.ensures) in
    (λ e. all_told s (shown_at all c.args.diff.now) c.deref-number-items.result.now c.each.taken.items c.each.number-index own c.each.invariant c.each-test.false, λ told. refl)
