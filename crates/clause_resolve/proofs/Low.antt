-- Variables of low numbers: as the bank grows, in what is set apart, and under unifiers.
use Rattle.std.proofs.Common.{◌≡◌, ℕ, ◌+◌, ◌<◌, ◌≤◌, Bool, true, false, cond, List, [], ◌∷◌, map, flat_map, refl, ap, sym, ◌∙◌, subst, arith, lt-ltb, le-ltb}
use Rattle.std.specs.Prelude.{nat_lt}
use Rattle.std.specs.List.{AllByRecursion}
use Rattle.std.proofs.lemmas.Bool.{ltb-true, ltb-false}
use Rattle.spec_trees.specs.Tree.{Trees, Leaf, Node, none, more, bind, binds}
use Rattle.spec_trees.specs.Leaves.{leaves, row_leaves}
use Rattle.spec_terms.specs.Term.{Sym, Term, Subst}
use Rattle.spec_terms.specs.Unifier.{moved}
use Rattle.spec_terms.proofs.Resolve.{resolved-factor}
use Rattle.spec_calculus.specs.Bounds.{most_symbols}
use Rattle.spec_clauses.specs.Diff.{diff_variables}
use Rattle.spec_clauses.specs.Fact.{Fact, terms_of, clause_terms, fact_under}
use Rattle.spec_clauses.specs.Shown.{shown_variables}
use Rattle.spec_clauses.specs.Variables.{IsBelow, AreBelow, fact_variables, constrained_variables, all_terms}
use Rattle.spec_clauses.proofs.Apart.{mix}
use Rattle.spec_clauses.proofs.Diffs.{bind-fixed}
use Rattle.spec_clauses.proofs.Facts.{fact_under-agree}
use Rattle.spec_clauses.proofs.Lists.{all_append, all_first, all_second, all_filter, all_weaker, all-flat_map}
use Rattle.spec_clauses.proofs.Parts.{terms_of-map}
use Rattle.term_tree.specs.declared.bank.Id.{Id}
use Rattle.unify_match.specs.declared.bound.Bound.{Bound}
use Rattle.unify_match.specs.Seen.{seen, IsReady}
use Rattle.unify_match.proofs.SeenLemmas.{IsReady-solves}
use Rattle.clause_diffs.specs.Diffs.{DiffOf, shown_at, diff_at, diffs_at}
use Rattle.clause_diffs.proofs.Shown.{shown-own}
use Rattle.clause_form.specs.Fit.{HasLowVariables}
use Rattle.clause_form.specs.Seen.{clause_at, IdClause}
use Rattle.clause_resolve.specs.Low.{AreDiffsBelow, bound_from, KeepsBelow}
use Rattle.clause_resolve.specs.Meeting.{IsMguOfFacts}
use Rattle.clause_resolve.proofs.SpendingLaws.{standing}

-- What is below a number is below a greater one.
pub below_more : (m n : ℕ) (ts : List Term) → m ≤ n → AreBelow m ts → AreBelow n ts
below_more m n ts less below = all_weaker (IsBelow m) (IsBelow n) (λ t h. all_weaker (λ x. x < m) (λ x. x < n) (λ x l. omega arith) (leaves t) h) ts below

-- Variables raised by n are below m and n.
mutual
  moved_term_below : (n m : ℕ) (t : Term) → IsBelow m t → IsBelow (m + n) (bind (moved n) t)
  moved_term_below n m (Leaf x) below = let here = below.0 in (omega arith, tt)
  moved_term_below n m (Node f args) below = moved_row_below n m args below

  moved_row_below : (n m : ℕ) (ts : Trees ℕ Sym) → AllByRecursion (λ x. x < m) (row_leaves ts) → AllByRecursion (λ x. x < m + n) (row_leaves (binds (moved n) ts))
  moved_row_below n m none below = tt
  moved_row_below n m (more t ts) below =
      all_append (λ x. x < m + n) (leaves (bind (moved n) t)) (row_leaves (binds (moved n) ts)) (moved_term_below n m t (all_first (λ x. x < m) (leaves t) (row_leaves ts) below))
      (moved_row_below n m ts (all_second (λ x. x < m) (leaves t) (row_leaves ts) below))

pub moved_below : (n m : ℕ) (ts : List Term) → AreBelow m ts → AreBelow (m + n) (map (bind (moved n)) ts)
moved_below n m [] below = tt
moved_below n m (t ∷ ts) below = (moved_term_below n m t below.0, moved_below n m ts below.1)

pub moved_fact_below : (n m : ℕ) (f : Fact Term) → AreBelow m (terms_of f) → AreBelow (m + n) (terms_of (fact_under (moved n) f))
moved_fact_below n m f below = subst (λ (ts : List Term). AreBelow (m + n) ts) (sym (terms_of-map (bind (moved n)) f)) (moved_below n m (terms_of f) below)

-- The clause's variables in its constraints are among those of the constraints' terms.
constrained_below : (n : ℕ) (all : List Term) (ds : List (DiffOf Id)) → AreDiffsBelow n all ds → AllByRecursion (λ x. x < n) (flat_map diff_variables (diffs_at all ds))
constrained_below n all [] below = tt
constrained_below n all (d ∷ ds) below =
    let own : AllByRecursion (λ x. x < n) (diff_variables (diff_at all d)) = subst (AllByRecursion (λ x. x < n)) (sym (shown-own (shown_at all d))) (all_filter (λ x. x < n) (λ x. nat_lt x d.first) (shown_variables (shown_at all d)) below.0) in
    all_append (λ x. x < n) (diff_variables (diff_at all d)) (flat_map diff_variables (diffs_at all ds)) own (constrained_below n all ds below.1)

as_terms : (n : ℕ) (xs : List ℕ) → AllByRecursion (λ x. x < n) xs → AreBelow n (map Leaf xs)
as_terms n [] below = tt
as_terms n (x ∷ xs) below = ((below.0, tt), as_terms n xs below.1)

pub low_terms : (all : List Term) (c : IdClause) → HasLowVariables all c → AreBelow most_symbols (all_terms (clause_at all c))
low_terms all c low =
    all_append (IsBelow most_symbols) (clause_terms (clause_at all c)) (map Leaf (constrained_variables (clause_at all c))) low.facts (as_terms most_symbols (constrained_variables (clause_at all c)) (constrained_below most_symbols all c.diffs low.diffs))

-- What holds of all in two ways.
all_both : (P Q R : ℕ → Type 0) → ((x : ℕ) → P x → Q x → R x) → (xs : List ℕ) → AllByRecursion P xs → AllByRecursion Q xs → AllByRecursion R xs
all_both P Q R h [] p q = tt
all_both P Q R h (x ∷ xs) p q = (h x p.0 q.0, all_both P Q R h xs p.1 q.1)

one_leaf : {x y : ℕ} → ◌≡◌ {A = Term} (Leaf x) (Leaf y) → x ≡ y
one_leaf e = cc

-- A most general unifier of facts with variables below n has for these terms with variables below n, where taking it twice is taking it
-- once: another unifier has Leaf 0 for all others.
module _ (n : ℕ) (f g : Fact Term) (s : Subst) (f_below : AreBelow n (terms_of f)) (g_below : AreBelow n (terms_of g)) (mgu : IsMguOfFacts f g s) (twice : (x : ℕ) → bind s (s x) ≡ s x) where
  abbrev zeroed : Subst
  zeroed = mix n s (λ x. Leaf 0)

  zeroed_low : (x : ℕ) → x < n → zeroed x ≡ s x
  zeroed_low x less = ap (λ b. cond b (s x) (Leaf 0)) (lt-ltb x n less)

  zeroed_high : (x : ℕ) → n ≤ x → zeroed x ≡ Leaf 0
  zeroed_high x over = ap (λ b. cond b (s x) (Leaf 0)) (le-ltb x n over)

  zeroed_fact : (h : Fact Term) → AreBelow n (terms_of h) → fact_under zeroed h ≡ fact_under s h
  zeroed_fact h below = fact_under-agree zeroed s h (all_weaker (λ x. x < n) (λ x. zeroed x ≡ s x) zeroed_low (fact_variables h) (all-flat_map (λ x. x < n) leaves (terms_of h) below))

  zeroed_unifies : fact_under zeroed f ≡ fact_under zeroed g
  zeroed_unifies = zeroed_fact f f_below ∙ (mgu.accepted ∙ sym (zeroed_fact g g_below))

  is_below : (q : Subst) → ((y : ℕ) → bind q (s y) ≡ zeroed y) → (x : ℕ) → x < n → (y : ℕ) → q y ≡ Leaf y → s y ≡ Leaf y → y < n
  is_below q factors x less y back stays = go (nat_lt y n) refl where
    go : (b : Bool) → nat_lt y n ≡ b → y < n
    go true e = ltb-true y n e
    go false e =
        let over : n ≤ y = ltb-false y n e in
        let zero_leaf : ◌≡◌ {A = Term} (Leaf y) (Leaf 0) = sym back ∙ (sym (ap (bind q) stays) ∙ (factors y ∙ zeroed_high y over)) in
        let same : y ≡ 0 = one_leaf zero_leaf in
        omega arith

  pub keeps_below : (x : ℕ) → x < n → IsBelow n (s x)
  keeps_below x less =
      let (q, factors) = mgu.most zeroed zeroed_unifies in
      all_both (λ y. q y ≡ Leaf y) (λ y. s y ≡ Leaf y) (λ y. y < n) (is_below q factors x less) (leaves (s x)) (bind-fixed q (s x) (factors x ∙ zeroed_low x less)) (bind-fixed s (s x) (twice x))

-- So does what bindings stand for that unify the facts of a pair.
pub unifier_keeps : (all : List Term) (pairs : List Bound) (f g : Fact Term) → IsReady all pairs → AreBelow bound_from (terms_of f) → AreBelow bound_from (terms_of g) → IsMguOfFacts f g (standing all pairs) → KeepsBelow bound_from (standing all pairs)
unifier_keeps all pairs f g ready f_below g_below mgu =
    keeps_below bound_from f g (standing all pairs) f_below g_below mgu (λ x. resolved-factor (standing all pairs) (seen all pairs) (IsReady-solves all pairs ready) x)
