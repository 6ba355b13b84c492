-- Solutions of equations by bindings, and what they leave below a number.
use Rattle.std.proofs.Common.{◌≡◌, ℕ, ◌<◌, Bool, true, false, cond, nat_lt, List, [], ◌++◌, length, map, take, drop, refl, ap, sym, subst, ◌∙◌, arith}
use Rattle.std.specs.List.{AllByRecursion}
use Rattle.std.proofs.lemmas.Bool.Decides.{nat_tests}
use Rattle.std.specs.Prelude.{◌↔◌}
use Rattle.std.proofs.lemmas.List.{length-map, map-append, take_at, drop_at}
use Rattle.spec_trees.specs.Tree.{Tree, Trees, Leaf, Node, none, more, node, bind, binds}
use Rattle.spec_trees.specs.Leaves.{leaves, row_leaves}
use Rattle.spec_terms.specs.Term.{Attacker, Sym, Term, Subst}
use Rattle.spec_terms.specs.Binding.{Binding, Solves, resolved}
use Rattle.spec_terms.proofs.Resolve.{resolved-factor}
use Rattle.spec_clauses.specs.Variables.{IsBelow, AreBelow}
use Rattle.spec_clauses.proofs.Lists.{all_append, all_weaker}
use Rattle.term_tree.specs.Bank.{Grows}
use Rattle.unify_match.specs.declared.bound.Bound.{Bound}
use Rattle.unify_match.specs.Seen.{seen, IsReady}
use Rattle.unify_match.specs.Outcome.{Unified, NoUnifier, UnifiedAll, NoUnifierOfAll}
use Rattle.unify_match.proofs.SeenLemmas.{seen-grows, IsReady-grows, IsReady-solves}
use Rattle.spec_translation.proofs.Visits.{below_agree, terms_agree}
use Rattle.unified_visits.specs.Solving.{AreRowsApart, AreRowsSolved, SolvesChoice, AreSolved, AreUnsolvable, HasBelow}

-- two lists in two parts each, the first parts of one length
halves : {A : Type 0} (xs ys zs ws : List A) → length xs ≡ length zs → xs ++ ys ≡ zs ++ ws → (xs ≡ zs) × (ys ≡ ws)
halves xs ys zs ws long e = (
  sym (take_at xs ys (length xs) refl) ∙ (ap (take (length xs)) e ∙ take_at zs ws (length xs) (sym long)),
  sym (drop_at xs ys (length xs) refl) ∙ (ap (drop (length xs)) e ∙ drop_at zs ws (length xs) (sym long)),
)

-- solved rows stay solved as the bank grows
pub rows_solved-grow : (old new : List Term) (pairs : List Bound) (xs ys : List Term) → Grows old new → AreRowsSolved old pairs xs ys → AreRowsSolved new pairs xs ys
rows_solved-grow old new pairs xs ys grows solved = record {
  ready = IsReady-grows old new pairs grows solved.ready;
  solutions = λ s. subst (λ (bs : List Binding). Solves s bs ↔ (map (bind s) xs ≡ map (bind s) ys)) (sym (seen-grows old new pairs grows solved.ready.known)) (solved.solutions s);
}

-- no bindings solve no equations
pub none_solved : (all : List Term) (pairs : List Bound) → pairs ≡ [] → IsReady all pairs → AreRowsSolved all pairs [] []
none_solved all pairs unbound ready = record { ready = ready; solutions = λ s. (λ h. refl, λ h. subst (λ (p : List Bound). Solves s (seen all p)) (sym unbound) tt) }

-- more equations behind those that are solved, as many on both sides
module _ (all : List Term) (old : List Bound) (xs ys us vs : List Term) (even : length xs ≡ length ys) (rows : AreRowsSolved all old xs ys) where
  in_parts : (s : Subst) → map (bind s) (xs ++ us) ≡ map (bind s) (ys ++ vs) → (map (bind s) xs ≡ map (bind s) ys) × (map (bind s) us ≡ map (bind s) vs)
  in_parts s e =
      halves (map (bind s) xs) (map (bind s) us) (map (bind s) ys) (map (bind s) vs) (length-map xs (bind s) ∙ (even ∙ sym (length-map ys (bind s)))) (sym (map-append (bind s) xs us) ∙ (e ∙ map-append (bind s) ys vs))

  pub more_solved : (new : List Bound) → IsReady all new → UnifiedAll all old new us vs → AreRowsSolved all new (xs ++ us) (ys ++ vs)
  more_solved new ready u = record {
    ready = ready;
    solutions = λ s. (
      λ h. (let both = (u.solutions s).0 h in
          let first = (rows.solutions s).0 both.0 in
          let second = both.1 in map-append (bind s) xs us ∙ ((λ i. first i ++ second i) ∙ sym (map-append (bind s) ys vs))),
      λ k. (let parts = in_parts s k in (u.solutions s).1 ((rows.solutions s).1 parts.0, parts.1)),
    );
  }

  pub more_apart : NoUnifierOfAll all old us vs → AreRowsApart (xs ++ us) (ys ++ vs)
  more_apart never s k = let parts = in_parts s k in never s ((rows.solutions s).1 parts.0) parts.1

pub all_solved : (all : List Term) (old new : List Bound) (xs ys : List Term) (a b : Term) → AreRowsSolved all old xs ys → IsReady all new → Unified all old new a b → AreSolved all new xs ys a b
all_solved all old new xs ys a b rows ready u = record {
  ready = ready;
  solutions = λ s. (
    λ h. let both = (u.solutions s).0 h in ((rows.solutions s).0 both.0, both.1),
    λ k. (u.solutions s).1 ((rows.solutions s).1 k.0, k.1),
  );
}

pub last_unsolvable : (all : List Term) (old : List Bound) (xs ys : List Term) (a b : Term) → AreRowsSolved all old xs ys → NoUnifier all old a b → AreUnsolvable xs ys a b
last_unsolvable all old xs ys a b rows never s h = never s ((rows.solutions s).1 h.0) h.1

-- what a substitution leaves as it is it leaves leaf by leaf
abbrev inner : {L S : Type 0} → Tree L S → Trees L S → Trees L S
inner (Leaf x) other = other
inner (Node f ts) other = ts

abbrev first_of_row : {L S : Type 0} → Trees L S → Tree L S → Tree L S
first_of_row none other = other
first_of_row (more t ts) other = t

abbrev rest_of_row : {L S : Type 0} → Trees L S → Trees L S
rest_of_row none = none
rest_of_row (more t ts) = ts

mutual
  fixed_leaves : (s : Subst) (t : Term) → bind s t ≡ t → AllByRecursion (λ x. s x ≡ Leaf x) (leaves t)
  fixed_leaves s (Leaf x) e = (e, tt)
  fixed_leaves s (Node f ts) e = fixed_row s ts (ap (λ u. inner u ts) e)

  fixed_row : (s : Subst) (ts : Trees ℕ Sym) → binds s ts ≡ ts → AllByRecursion (λ x. s x ≡ Leaf x) (row_leaves ts)
  fixed_row s none e = tt
  fixed_row s (more t ts) e = all_append (λ x. s x ≡ Leaf x) (leaves t) (row_leaves ts) (fixed_leaves s t (ap (λ u. first_of_row u t) e)) (fixed_row s ts (ap rest_of_row e))

-- Bindings whose solutions solve equations below a number have terms below it for the variables below it: else a solution
-- could be changed from that number on, where the equations do not see it, but the bindings do.
abbrev constant : Term
constant = node Attacker []

abbrev changed : ℕ → Subst → Subst
changed n s x = cond (nat_lt x n) (s x) constant

no_leaf : (x : ℕ) → constant ≡ Leaf x → ⊥
no_leaf x e = cc

below_or : (n : ℕ) (t : Term) (y : ℕ) → cond (nat_lt y n) t constant ≡ Leaf y → y < n
below_or n t y e = go (nat_lt y n) refl e where
  go : (b : Bool) → nat_lt y n ≡ b → cond b t constant ≡ Leaf y → y < n
  go true h k = grind (arith, nat_tests, h)
  go false h k = absurd (no_leaf y k)

module _ (all : List Term) (pairs : List Bound) (xs ys : List Term) (a b : Term) (n : ℕ) (solved : AreSolved all pairs xs ys a b) (xs_below : AreBelow n xs) (ys_below : AreBelow n ys) (a_below : IsBelow n a) (b_below : IsBelow n b) where
  pub solutions_below : HasBelow (resolved (seen all pairs)) n
  solutions_below x low =
      let s = resolved (seen all pairs) in
      let r = changed n s in
      let same : (y : ℕ) → y < n → r y ≡ s y = λ y h. (let e : nat_lt y n ≡ true = grind (arith, nat_tests, h) in rw e refl) in
      let holds = (solved.solutions s).0 (IsReady-solves all pairs solved.ready) in
      let also : SolvesChoice r xs ys a b = (
        terms_agree r s n same xs xs_below ∙ (holds.0 ∙ sym (terms_agree r s n same ys ys_below)),
        below_agree r s n same a a_below ∙ (holds.1 ∙ sym (below_agree r s n same b b_below)),
      ) in
      let solves = (solved.solutions r).1 also in
      let fixed : bind r (s x) ≡ s x = resolved-factor r (seen all pairs) solves x ∙ same x low in
      all_weaker (λ y. r y ≡ Leaf y) (λ y. y < n) (λ y e. below_or n (s y) y e) (leaves (s x)) (fixed_leaves r (s x) fixed)
