-- Facts match where their terms do, seen through bindings over a bank.
use Rattle.std.proofs.Common.{◌≡◌, ℕ, Bool, true, false, ◌||◌, cond, nat_eq, is_some, Some, List, [], ◌∷◌, map, length, refl, ap, sym, ◌∙◌, subst, Result, Ok, Err, IfOk, MatchBool}
use Rattle.std.specs.declared.alloc.AllocError.{AllocError}
use Rattle.std.specs.List.{list_any}
use Rattle.std.proofs.lemmas.List.{length-map}
use Rattle.spec_trees.specs.Tree.{bind}
use Rattle.spec_terms.specs.Term.{Term, has_var}
use Rattle.spec_terms.specs.Unifier.{MatchesAll}
use Rattle.spec_terms.specs.Binding.{bound_to, replaced_once}
use Rattle.spec_clauses.specs.Fact.{Fact, terms_of, outline}
use Rattle.spec_clauses.specs.Head.{head_of}
use Rattle.spec_clauses.proofs.Parts.{head_of-map, terms_of-map, outline-parts}
use Rattle.term_tree.specs.Bank.{tree_at}
use Rattle.term_tree.specs.declared.bank.Id.{Id}
use Rattle.clause_form.specs.Seen.{fact_at}
use Rattle.unify_match.specs.declared.bound.Bound.{Bound}
use Rattle.unify_match.specs.Trail.{id_of}
use Rattle.unify_match.specs.Seen.{seen}
use Rattle.unify_match.specs.Outcome.{MatchedAll, NoMatchOfAll}
use Rattle.spec_placements.specs.Placing.{FactMatched, NoFactMatch}
use Rattle.spec_placements.proofs.FactMatching.{fact_matched, fact_unmatched}

pub is_some_seen : (all : List Term) (pairs : List Bound) (x : ℕ) → is_some (bound_to (seen all pairs) x) ≡ is_some (id_of pairs x)
is_some_seen all [] x = refl
is_some_seen all (b ∷ bs) x = go (nat_eq x b.var) (is_some_seen all bs x) where
  go : (c : Bool) → is_some (bound_to (seen all bs) x) ≡ is_some (id_of bs x) → is_some (cond c (Some (tree_at all b.id)) (bound_to (seen all bs) x)) ≡ is_some (cond c (Some b.id) (id_of bs x))
  go true below = refl
  go false below = below

-- facts whose terms were matched
terms_matched : (all : List Term) (old new : List Bound) (g h : Fact Term) → outline g ≡ outline h → MatchedAll all old new (terms_of g) (terms_of h) → FactMatched (seen all old) (seen all new) g h
terms_matched all old new g h same m = fact_matched (seen all old) (seen all new) g h same (λ x. is_some_seen all new x ∙ (m.exactly x ∙ ap (λ b. b || list_any (has_var x) (terms_of g)) (sym (is_some_seen all old x)))) m.only

pub facts_told : (all : List Term) (old new : List Bound) (g h : Fact Term) (r : Result Bool AllocError) → (MatchesAll (replaced_once (seen all new)) (terms_of g) (terms_of h) → outline g ≡ outline h)
    → IfOk r (λ yes. MatchBool yes (MatchedAll all old new (terms_of g) (terms_of h)) (NoMatchOfAll all old (terms_of g) (terms_of h)))
    → IfOk r (λ yes. MatchBool yes (FactMatched (seen all old) (seen all new) g h) (NoFactMatch (seen all old) g h))
facts_told all old new g h (Ok true) same told = terms_matched all old new g h (same told.is_match) told
facts_told all old new g h (Ok false) same told = fact_unmatched (seen all old) g h told
facts_told all old new g h (Err e) same told = tt

-- what is told of two facts over ids, and of two lists of ids
abbrev IsTold : List Term → List Bound → List Bound → Result Bool AllocError → Fact Id → Fact Id → Type 0
IsTold all old new r f h = IfOk r (λ yes. MatchBool yes (FactMatched (seen all old) (seen all new) (fact_at all f) (fact_at all h)) (NoFactMatch (seen all old) (fact_at all f) (fact_at all h)))

abbrev AreTold : List Term → List Bound → List Bound → Result Bool AllocError → List Term → List Term → Type 0
AreTold all old new r ts us = IfOk r (λ yes. MatchBool yes (MatchedAll all old new ts us) (NoMatchOfAll all old ts us))

-- facts of one head match where their terms do
pub terms_told : (all : List Term) (old new : List Bound) (r : Result Bool AllocError) (f h : Fact Id) (ts us : List Id) → ts ≡ terms_of f → us ≡ terms_of h → head_of f ≡ head_of h
    → AreTold all old new r (map (tree_at all) ts) (map (tree_at all) us) → IsTold all old new r f h
terms_told all old new r f h ts us t u heads told =
    let generals : map (tree_at all) ts ≡ terms_of (fact_at all f) = ap (map (tree_at all)) t ∙ sym (terms_of-map (tree_at all) f) in
    let specials : map (tree_at all) us ≡ terms_of (fact_at all h) = ap (map (tree_at all)) u ∙ sym (terms_of-map (tree_at all) h) in
    facts_told all old new (fact_at all f) (fact_at all h) r
    (λ m. outline-parts (fact_at all f) (fact_at all h) (head_of-map (tree_at all) f ∙ (heads ∙ sym (head_of-map (tree_at all) h)))
    (sym (length-map (terms_of (fact_at all f)) (bind (replaced_once (seen all new)))) ∙ ap length m))
    (subst (λ xs. AreTold all old new r xs (terms_of (fact_at all h))) generals (subst (λ ys. AreTold all old new r (map (tree_at all) ts) ys) specials told))
