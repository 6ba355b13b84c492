-- What shows at once that no row holds.
use Rattle.std.proofs.Common.{◌≡◌, ◌∙◌, ℕ, zero, suc, ◌+◌, ◌<◌, ◌≤◌, Bool, true, false, not, cond, Some, List, [], ◌∷◌, ◌++◌, length, map, get_or, refl, ap, sym, subst, arith}
use Rattle.std.specs.Prelude.{slice_get}
use Rattle.std.proofs.lemmas.List.{length-map}
use Rattle.std.proofs.lemmas.Option.{slice_get_within}
use Rattle.std.proofs.lemmas.Simd.{map-map}
use Rattle.spec_trees.specs.Tree.{bind, node, size}
use Rattle.spec_trees.proofs.Measures.{size-le-bind}
use Rattle.spec_terms.specs.Term.{Sym, Term, Subst, is_ground}
use Rattle.spec_terms.proofs.Ground.{ground-bind}
use Rattle.spec_clauses.specs.Fact as horn
use Rattle.spec_clauses.specs.Fact.{Clause, terms_of, fact_under, is_variable_known}
use Rattle.spec_clauses.specs.Inclusion.{Picks, here, there, IsWithin}
use Rattle.spec_clauses.specs.Subsumption.{firm, RowHolds}
use Rattle.spec_clauses.proofs.Inclusion.{Has-filter, Has-map, Has-within, Has-from_Contains, Contains-from_Has}
use Rattle.spec_clauses.proofs.Parts.{terms_of-map}
use Rattle.spec_clauses.proofs.Rows.{takes_within}
use Rattle.term_tree.specs.Bank.{tree_at, capped}
use Rattle.term_tree.specs.declared.bank.Id.{Id}
use Rattle.unify_match.proofs.Matchings.{match_applications_fail}
use Rattle.clause_form.specs.declared.facts.Fact.{Fact}
use Rattle.clause_form.specs.Facts.{fact_of}
use Rattle.clause_form.specs.Seen.{fact_at, clause_at, IdClause}
use Rattle.fact_placing.specs.Boards.{facts_at}
use Rattle.multiset_subsume.specs.Apart.{AreApart, StandsNowhere, CannotAllStand}
use Rattle.fact_placing.proofs.Putting.{there_at}

-- different symbols at the roots, or different numbers of arguments
pub roots_apart : (all : List Term) (general special : Id) (f g : Sym) (xs ys : List Id) → tree_at all general ≡ node f (map (tree_at all) xs) → tree_at all special ≡ node g (map (tree_at all) ys) → ((f ≡ g) × (length xs ≡ length ys) → ⊥)
    → (s : Subst) → bind s (tree_at all general) ≡ tree_at all special → ⊥
roots_apart all general special f g xs ys is_general is_special never s e = match_applications_fail all [] general special f g xs ys is_general is_special (λ r agrees parts. never (parts.0, parts.2)) s tt e

-- a term without variables, and another one
pub ground_apart : (all : List Term) (general special : Id) → is_ground (tree_at all general) ≡ true → (tree_at all general ≡ tree_at all special → ⊥) → (s : Subst) → bind s (tree_at all general) ≡ tree_at all special → ⊥
ground_apart all general special ground differ s e = differ (sym (ground-bind s (tree_at all general) ground) ∙ e)

-- a term of more symbols
pub larger_apart : (all : List Term) (general special : Id) → capped (size (tree_at all special)) < capped (size (tree_at all general)) → (s : Subst) → bind s (tree_at all general) ≡ tree_at all special → ⊥
larger_apart all general special larger s e = absurd (omega (arith, larger, size-le-bind s (tree_at all general), ap size e))

-- lists with such terms at a place, and facts with such lists of terms
pub lists_apart_at : (all : List Term) (xs ys : List Id) (i : ℕ) (d : Id) → i < length xs → i < length ys → ((s : Subst) → bind s (tree_at all (get_or xs i d)) ≡ tree_at all (get_or ys i d) → ⊥) → (s : Subst) → map (bind s) (map (tree_at all) xs) ≡ map (tree_at all) ys → ⊥
lists_apart_at all [] ys i d in_xs in_ys never s e = absurd (omega arith)
lists_apart_at all (x ∷ xs) [] i d in_xs in_ys never s e = absurd (omega arith)
lists_apart_at all (x ∷ xs) (y ∷ ys) zero d in_xs in_ys never s e = let here : bind s (tree_at all x) ≡ tree_at all y = cc in never s here
lists_apart_at all (x ∷ xs) (y ∷ ys) (suc i) d in_xs in_ys never s e =
    let others : map (bind s) (map (tree_at all) xs) ≡ map (tree_at all) ys = cc in
    lists_apart_at all xs ys i d (omega arith) (omega arith) never s others

pub terms_apart : (all : List Term) (f h : horn.Fact Id) → ((s : Subst) → map (bind s) (map (tree_at all) (terms_of f)) ≡ map (tree_at all) (terms_of h) → ⊥) → AreApart all f h
terms_apart all f h never s e =
    let generals : terms_of (fact_under s (fact_at all f)) ≡ map (bind s) (map (tree_at all) (terms_of f)) = terms_of-map (bind s) (fact_at all f) ∙ ap (map (bind s)) (terms_of-map (tree_at all) f) in
    never s (sym generals ∙ (ap terms_of e ∙ terms_of-map (tree_at all) h))

-- what stands at no position before the end stands nowhere
pub nowhere : (all : List Term) (fact : horn.Fact Id) (hyps : List (horn.Fact Id)) (n : ℕ) → length (facts_at all hyps) ≤ n → ((q : ℕ) → q < n → (s : Subst) → slice_get (facts_at all hyps) q ≡ Some (fact_under s (fact_at all fact)) → ⊥) → StandsNowhere all fact hyps
nowhere all fact hyps n past never s p stands = let within = slice_get_within (facts_at all hyps) p (fact_under s (fact_at all fact)) stands in never p (omega arith) s stands

some_same : {X : Type 0} {x y : X} → Some x ≡ Some y → x ≡ y
some_same e = cc

at_got : {X : Type 0} (xs : List X) (k : ℕ) (x : X) → slice_get xs k ≡ Some x → get_or xs k x ≡ x
at_got [] k x e = refl
at_got (y ∷ xs) zero x e = some_same e
at_got (y ∷ xs) (suc k) x e = at_got xs k x e

got_at : {X : Type 0} (xs : List X) (k : ℕ) (x : X) → k < length xs → get_or xs k x ≡ x → slice_get xs k ≡ Some x
got_at [] k x within e = absurd (omega arith)
got_at (y ∷ xs) zero x within e = ap Some e
got_at (y ∷ xs) (suc k) x within e = got_at xs k x (omega arith) e

-- a firm fact that stands nowhere
pub cannot_all : (all : List Term) (facts : List Fact) (hyps : List (horn.Fact Id)) (i : ℕ) (f : Fact) → i < length facts → f ≡ get_or facts i f → is_variable_known (fact_at all (fact_of f)) ≡ false → StandsNowhere all (fact_of f) hyps → CannotAllStand all (map fact_of facts) hyps
cannot_all all facts hyps i f within is firm_is never s w =
    let F = fact_at all (fact_of f) in
    let fs = facts_at all (map fact_of facts) in
    let at = there_at all facts i f is within in
    let has = Has-from_Contains fs F (i, slice_get_within fs i F at, at_got fs i F at) in
    let among = Has-filter (λ h. not (is_variable_known h)) fs F has (ap not firm_is) in
    let found = Contains-from_Has (facts_at all hyps) (fact_under s F) (Has-within (map (fact_under s) (firm fs)) (facts_at all hyps) (fact_under s F) w (Has-map (fact_under s) (firm fs) F among)) in
    never s found.0 (got_at (facts_at all hyps) found.0 (fact_under s F) found.1 found.2)

-- more firm facts than hypotheses
pick_length : {X : Type 0} {xs rest : List X} {x : X} → Picks xs x rest → length xs ≡ suc (length rest)
pick_length here = refl
pick_length (there p) = ap suc (pick_length p)

within_length : {X : Type 0} (xs ys : List X) → IsWithin xs ys → length xs ≤ length ys
within_length [] ys w = omega arith
within_length (x ∷ xs) ys w = omega (arith, pick_length w.1, within_length xs w.0 w.2)

pub cannot_so_many : (all : List Term) (facts hyps : List (horn.Fact Id)) → length hyps < length (firm (facts_at all facts)) → CannotAllStand all facts hyps
cannot_so_many all facts hyps more s w = let few = within_length (map (fact_under s) (firm (facts_at all facts))) (facts_at all hyps) w in
    absurd (omega (arith, more, few, length-map (firm (facts_at all facts)) (fact_under s), length-map hyps (fact_at all)))

-- the number of firm facts, one more
pub firm_more : (f : horn.Fact Term) (fs : List (horn.Fact Term)) → length (firm (f ∷ fs)) ≡ length (firm (f ∷ [])) + length (firm fs)
firm_more f fs = go (is_variable_known f) where
  go : (b : Bool) → length (cond (not b) (f ∷ firm fs) (firm fs)) ≡ length (cond (not b) (f ∷ []) []) + length (firm fs)
  go true = omega arith
  go false = omega arith

-- the firm hypotheses stand where a row holds
within_front : {X : Type 0} (xs ys zs : List X) → IsWithin (xs ++ ys) zs → IsWithin xs zs
within_front [] ys zs w = tt
within_front (x ∷ xs) ys zs w = (w.0, w.1, within_front xs ys w.0 w.2)

row_within : (general special : Clause Term) (row : List ℕ) → (h : RowHolds general special row) → IsWithin (map (fact_under h.by) (firm general.hypotheses)) special.hypotheses
row_within general special row h =
    within_front (map (fact_under h.by) (firm general.hypotheses)) _ special.hypotheses
    (takes_within special.hypotheses (map (fact_under h.by) (firm general.hypotheses)) _ row (record { distinct = h.distinct; firmly = map-map Some (fact_under h.by) (firm general.hypotheses) ∙ h.firmly; loosely = h.loosely }))

-- no row of clauses that are put together
pub no_row_apart : (all : List Term) (general special g s : IdClause) → g ≡ general → s ≡ special → AreApart all g.conclusion s.conclusion → (row : List ℕ) → RowHolds (clause_at all general) (clause_at all special) row → ⊥
no_row_apart all general special g s g_is s_is apart row holds =
    let own : RowHolds (clause_at all g) (clause_at all s) row = subst (λ (c : IdClause). RowHolds (clause_at all c) (clause_at all s) row) (sym g_is) (subst (λ (c : IdClause). RowHolds (clause_at all general) (clause_at all c) row) (sym s_is) holds) in
    apart own.by own.conclusion

pub no_row_crowded : (all : List Term) (general special g s : IdClause) → g ≡ general → s ≡ special → CannotAllStand all g.hypotheses s.hypotheses → (row : List ℕ) → RowHolds (clause_at all general) (clause_at all special) row → ⊥
no_row_crowded all general special g s g_is s_is cannot row holds =
    let own : RowHolds (clause_at all g) (clause_at all s) row = subst (λ (c : IdClause). RowHolds (clause_at all c) (clause_at all s) row) (sym g_is) (subst (λ (c : IdClause). RowHolds (clause_at all general) (clause_at all c) row) (sym s_is) holds) in
    cannot own.by (row_within (clause_at all g) (clause_at all s) row own)
