-- Terms and facts under bindings, over a bank that grows.
use Rattle.std.proofs.Common.{◌≡◌, ℕ, ◌<◌, true, false, not, nat_le, Option, Some, None, List, [], ◌∷◌, length, map, get_or, refl, ap, sym, subst, ◌∙◌, arith}
use Rattle.std.specs.List.{list_any}
use Rattle.std.proofs.lemmas.Bool.Decides.{nat_tests}
use Rattle.spec_trees.specs.Tree.{bind, size}
use Rattle.spec_calculus.specs.Bounds.{most_symbols}
use Rattle.spec_terms.specs.Term.{Term, Subst}
use Rattle.spec_terms.specs.Binding.{resolved}
use Rattle.spec_clauses.specs.Fact.{fact_under}
use Rattle.term_tree.specs.Bank.{tree_at, Names, Grows}
use Rattle.term_tree.specs.declared.bank.Id.{Id}
use Rattle.term_tree.proofs.BankLaws.{tree_at-grows}
use Rattle.unify_match.specs.declared.bound.Bound.{Bound}
use Rattle.unify_match.specs.Seen.{seen, IsReady}
use Rattle.unify_match.proofs.SeenLemmas.{seen-grows}
use Rattle.clause_form.specs.declared.facts.Fact as declared
use Rattle.clause_form.specs.Facts.{fact_of}
use Rattle.clause_form.specs.Seen.{fact_at}
use Rattle.clause_form.proofs.Renumber.{under_at}
use Rattle.unified_visits.specs.Built.{IsUnder}
use Rattle.unified_visits.specs.Sizes.{is_over, some_over, some_over_in, some_fact_over}
use Rattle.unified_visits.proofs.Lists.{any_at}

pub over_is : (most : ℕ) (t : Term) → most < size t → is_over most t ≡ true
over_is most t h = let e : nat_le (size t) most ≡ false = grind (arith, nat_tests) in ap not e

module _ (old now : List Term) (pairs : List Bound) (grows : Grows old now) (ready : IsReady old pairs) where
  pub same_under : (id : Id) → id.index < length old → bind (resolved (seen now pairs)) (tree_at now id) ≡ bind (resolved (seen old pairs)) (tree_at old id)
  same_under id known =
      let bindings = seen-grows old now pairs grows ready.known in
      let trees = tree_at-grows old now id grows known in λ i. bind (resolved (bindings i)) (trees i)

  pub same_under_at : (id : Id) → bind (resolved (seen now pairs)) (tree_at now id) ≡ under_at (resolved (seen old pairs)) now id
  same_under_at id = let bindings = seen-grows old now pairs grows ready.known in λ i. bind (resolved (bindings i)) (tree_at now id)

  -- a term that is over
  pub over_later : (new : List Term) (id : Id) (found : Option Id) → id.index < length old → found ≡ None → IsUnder now new pairs id found → is_over most_symbols (bind (resolved (seen old pairs)) (tree_at old id)) ≡ true
  over_later new id found known none under = ap (is_over most_symbols) (sym (same_under id known)) ∙ subst (λ o. IsUnder now new pairs id o) none under

  pub names_later : (new : List Term) (id made : Id) (found : Option Id) → id.index < length old → found ≡ Some made → IsUnder now new pairs id found → Names new made (bind (resolved (seen old pairs)) (tree_at old id))
  names_later new id made found known some under = subst (λ t. Names new made t) (same_under id known) (subst (λ o. IsUnder now new pairs id o) some under)

  pub names_at : (new : List Term) (id made : Id) (found : Option Id) → found ≡ Some made → IsUnder now new pairs id found → Names new made (under_at (resolved (seen old pairs)) now id)
  names_at new id made found some under = subst (λ t. Names new made t) (same_under_at id) (subst (λ o. IsUnder now new pairs id o) some under)

-- one of the terms is over
pub some_over_at : (old : List Term) (s : Subst) (ids : List Id) (i : ℕ) (d : Id) (most : ℕ) → i < length ids → is_over most (bind s (tree_at old (get_or ids i d))) ≡ true → some_over most (map (bind s) (map (tree_at old) ids)) ≡ true
some_over_at old s ids i d most within e = subst (λ l. list_any (is_over most) l ≡ true) (sym (mapped ids)) (any_at (is_over most) (λ id. bind s (tree_at old id)) ids i d within e) where
  mapped : (xs : List Id) → map (bind s) (map (tree_at old) xs) ≡ map (λ id. bind s (tree_at old id)) xs
  mapped [] = refl
  mapped (x ∷ xs) = let rest = mapped xs in λ i. bind s (tree_at old x) ∷ rest i

pub some_fact_over_at : (old : List Term) (s : Subst) (fs : List declared.Fact) (i : ℕ) (f : declared.Fact) (most : ℕ) → i < length fs → f ≡ get_or fs i f → some_over_in most (fact_under s (fact_at old (fact_of f))) ≡ true
    → some_fact_over most (map (fact_under s) (map (fact_at old) (map fact_of fs))) ≡ true
some_fact_over_at old s fs i f most within is e = subst (λ l. list_any (some_over_in most) l ≡ true) (sym (mapped fs)) (any_at (some_over_in most) (λ h. fact_under s (fact_at old (fact_of h))) fs i f within (subst (λ h. some_over_in most (fact_under s (fact_at old (fact_of h))) ≡ true) is e)) where
  mapped : (xs : List declared.Fact) → map (fact_under s) (map (fact_at old) (map fact_of xs)) ≡ map (λ h. fact_under s (fact_at old (fact_of h))) xs
  mapped [] = refl
  mapped (x ∷ xs) = let rest = mapped xs in λ i. fact_under s (fact_at old (fact_of x)) ∷ rest i
