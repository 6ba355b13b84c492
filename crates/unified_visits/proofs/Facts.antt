-- Facts under bindings, over a bank that grows.
use Rattle.std.proofs.Common.{◌≡◌, ℕ, true, Option, Some, None, List, map, ap, sym, subst, ◌∙◌}
use Rattle.std.specs.Prelude.{MatchOption}
use Rattle.spec_trees.specs.Tree.{bind}
use Rattle.spec_terms.specs.Term.{Term, Subst}
use Rattle.spec_terms.specs.Binding.{resolved}
use Rattle.spec_clauses.specs.Fact.{Fact, terms_of, fact_under}
use Rattle.spec_clauses.specs.Head.{head_of, made_of}
use Rattle.term_tree.specs.Bank.{tree_at, Grows}
use Rattle.term_tree.specs.declared.bank.Id.{Id}
use Rattle.unify_match.specs.declared.bound.Bound.{Bound}
use Rattle.unify_match.specs.Seen.{seen, IsReady}
use Rattle.unify_match.proofs.SeenLemmas.{seen-grows}
use Rattle.clause_form.specs.declared.facts.Fact as declared
use Rattle.clause_form.specs.Facts.{fact_of}
use Rattle.clause_form.specs.Seen.{fact_at, IsFactIn, NameTerms, NamesFact}
use Rattle.clause_form.proofs.Copying.{fact_at-grows}
use Rattle.clause_form.proofs.Made.{made_names, terms_under}
use Rattle.unified_visits.specs.Sizes.{some_over, some_over_in}

-- what fact_under tells
abbrev pub FactApplied : List Term → List Term → List Bound → Fact Id → ℕ → Option declared.Fact → Type 0
FactApplied now new pairs f most found =
    MatchOption found (some_over_in most (fact_under (resolved (seen now pairs)) (fact_at now f)) ≡ true) (λ made. NamesFact new (fact_of made) (fact_under (resolved (seen now pairs)) (fact_at now f)))

module _ (old now new : List Term) (pairs : List Bound) (grows : Grows old now) (ready : IsReady old pairs) (f : Fact Id) where
  pub fact_over_later : (most : ℕ) (found : Option declared.Fact) → IsFactIn old f → found ≡ None → FactApplied now new pairs f most found → some_over_in most (fact_under (resolved (seen old pairs)) (fact_at old f)) ≡ true
  fact_over_later most found known none applied =
      let over = subst (λ o. FactApplied now new pairs f most o) none applied in
      let bindings = seen-grows old now pairs grows ready.known in
      let same = fact_at-grows old now f grows known in
      sym (λ i. some_over_in most (fact_under (resolved (bindings i)) (same i))) ∙ over

  pub fact_named_at : (made : declared.Fact) (most : ℕ) (found : Option declared.Fact) → found ≡ Some made → FactApplied now new pairs f most found → NamesFact new (fact_of made) (fact_under (resolved (seen old pairs)) (fact_at now f))
  fact_named_at made most found some applied =
      let built = subst (λ o. FactApplied now new pairs f most o) some applied in
      let bindings = seen-grows old now pairs grows ready.known in
      subst (λ bs. NamesFact new (fact_of made) (fact_under (resolved bs) (fact_at now f))) bindings built

-- a fact by its parts: what is told of its terms under a substitution tells of the fact
module _ (old new : List Term) (s : Subst) (f : Fact Id) (ids : List Id) (parts : ids ≡ terms_of f) where
  same_terms : terms_of (fact_under s (fact_at old f)) ≡ map (bind s) (map (tree_at old) ids)
  same_terms = terms_under old s f ∙ ap (λ l. map (bind s) (map (tree_at old) l)) (sym parts)

  pub fact_over : (most : ℕ) → some_over most (map (bind s) (map (tree_at old) ids)) ≡ true → some_over_in most (fact_under s (fact_at old f)) ≡ true
  fact_over most over = ap (some_over most) same_terms ∙ over

  pub fact_made : (made : List Id) (whole : Fact Id) → whole ≡ made_of (head_of f) made → NameTerms new made (map (bind s) (map (tree_at old) ids)) → NamesFact new whole (fact_under s (fact_at old f))
  fact_made made whole is names =
      subst (λ (x : Fact Id). NamesFact new x (fact_under s (fact_at old f))) (sym is)
      (made_names old new (bind s) f made (subst (λ (l : List Id). NameTerms new made (map (bind s) (map (tree_at old) l))) parts names))
