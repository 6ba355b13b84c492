-- Constraints with their variables numbered, as they are written.
use Rattle.std.proofs.Common.{◌≡◌, ℕ, ◌+◌, ◌-◌, ◌<◌, ◌≤◌, Bool, true, false, cond, nat_eq, nat_lt, suc, ◌||◌, filter, List, [], ◌∷◌, ◌++◌, length, map, flat_map, refl, ap, sym, ◌∙◌, subst, lt-ltb, le-ltb, arith}
use Rattle.std.specs.List.{AllByRecursion, list_any}
use Rattle.std.proofs.lemmas.List.Concat.{flat_map-append}
use borrow.Author.Tests.{ltb-true, ltb-false}
use Rattle.spec_trees.specs.Tree.{Leaf, bind, after}
use Rattle.spec_terms.specs.Term.{Term, Subst}
use Rattle.spec_clauses.specs.Diff.{Slot, Own, Bound, Diff, diff_bind, slot_under, diff_under, rebound, bound_place, numbered_diff, diff_variables, bound_variables}
use Rattle.spec_clauses.specs.Distinct.{distinct, place_of}
use Rattle.spec_clauses.specs.Shown.{Shown, slot_shown, diff_shown, shown_variables}
use Rattle.spec_clauses.specs.Variables.{leaves}
use Rattle.spec_clauses.proofs.Lists.{all_first, all_second, all_weaker}
use Rattle.spec_clauses.proofs.Diffs.{maps_after, maps-alike, diff_bind-diff_bind}
use Rattle.spec_clauses.proofs.DiffNumbering.{bound-under}
use Rattle.term_tree.specs.Bank.{tree_at, Grows}
use Rattle.term_tree.specs.declared.bank.Id.{Id}
use Rattle.term_tree.proofs.BankLaws.{Grows_trans, AreKnown-grows, trees_at-grow}
use Rattle.clause_diffs.specs.Diffs.{DiffOf, shown_at, diff_at, IsDiffIn, NameTerms, NamesDiff}
use Rattle.clause_diffs.specs.Numbers.{placed, numbered_by}
use Rattle.clause_diffs.proofs.Naming.{NameTerms-grows}
use Rattle.clause_diffs.proofs.Shown.{shown-own}

-- the constraint as it is written with its variables numbered so
abbrev pub numbered_shown : List ℕ → List ℕ → ℕ → Shown → Shown
numbered_shown own bound next d = record { first = next; left = map (bind (numbered_by own bound d.first next)) d.left; right = map (bind (numbered_by own bound d.first next)) d.right }

module _ (own bound : List ℕ) (first next : ℕ) where
  abbrev bound_in : ℕ → ℕ
  bound_in i = place_of i bound

  numbered_slot : (x : ℕ) → (x < first → place_of x own < next) → after (λ y. Leaf (slot_shown next y)) (numbered_by own bound first next) x ≡ after (rebound bound_in) (after (slot_under (placed own)) (λ y. Leaf (slot_shown first y))) x
  numbered_slot x below = go (nat_lt x first) refl where
    go : (b : Bool) → nat_lt x first ≡ b
        → bind (λ y. Leaf (slot_shown next y)) (cond b (Leaf (place_of x own)) (Leaf (place_of (x - first) bound + next))) ≡ bind (rebound bound_in) (slot_under (placed own) (cond b (Own x) (Bound (x - first))))
    go true e = let least = lt-ltb (place_of x own) next (below (ltb-true x first e)) in ap (λ b. Leaf (cond b (Own (place_of x own)) (Bound (place_of x own - next)))) least
    go false e =
        let n = place_of (x - first) bound in
        let over : next ≤ n + next = omega arith in
        let back : (n + next) - next ≡ n = omega arith in
        ap (λ b. Leaf (cond b (Own (n + next)) (Bound ((n + next) - next)))) (le-ltb (n + next) next over) ∙ ap (λ i. Leaf (Bound i)) back

  numbered_sides : (ts : List Term) → AllByRecursion (λ x. x < first → place_of x own < next) (flat_map leaves ts)
      → map (bind (λ y. Leaf (slot_shown next y))) (map (bind (numbered_by own bound first next)) ts) ≡ map (bind (after (rebound bound_in) (slot_under (placed own)))) (map (bind (λ y. Leaf (slot_shown first y))) ts)
  numbered_sides ts below =
      maps_after (λ y. Leaf (slot_shown next y)) (numbered_by own bound first next) ts
      ∙ (maps-alike (after (λ y. Leaf (slot_shown next y)) (numbered_by own bound first next)) (after (after (rebound bound_in) (slot_under (placed own))) (λ y. Leaf (slot_shown first y))) ts
      (all_weaker (λ x. x < first → place_of x own < next) (λ x. after (λ y. Leaf (slot_shown next y)) (numbered_by own bound first next) x ≡ after (after (rebound bound_in) (slot_under (placed own))) (λ y. Leaf (slot_shown first y)) x) numbered_slot (flat_map leaves ts) below)
      ∙ sym (maps_after (after (rebound bound_in) (slot_under (placed own))) (λ y. Leaf (slot_shown first y)) ts))

-- It is the constraint with its bound variables numbered by their first occurrence, and the clause's by their places.
pub shown-numbered : (own bound : List ℕ) (next : ℕ) (d : Shown) → bound ≡ distinct nat_eq (bound_variables (diff_shown d)) → AllByRecursion (λ x. x < d.first → place_of x own < next) (shown_variables d)
    → diff_shown (numbered_shown own bound next d) ≡ numbered_diff (diff_under (placed own) (diff_shown d))
shown-numbered own bound next d is below =
    let apart = subst (AllByRecursion (λ x. x < d.first → place_of x own < next)) (flat_map-append leaves d.left d.right) below in
    let left = all_first (λ x. x < d.first → place_of x own < next) (flat_map leaves d.left) (flat_map leaves d.right) apart in
    let right = all_second (λ x. x < d.first → place_of x own < next) (flat_map leaves d.left) (flat_map leaves d.right) apart in
    let order : bound ≡ distinct nat_eq (bound_variables (diff_under (placed own) (diff_shown d))) = is ∙ ap (distinct nat_eq) (sym (bound-under (placed own) (diff_shown d))) in
    (λ i. record { left = numbered_sides own bound d.first next d.left left i; right = numbered_sides own bound d.first next d.right right i })
    ∙ (sym (diff_bind-diff_bind (rebound (λ i. place_of i bound)) (slot_under (placed own)) (diff_shown d))
    ∙ ap (λ js. diff_bind (rebound (λ i. place_of i js)) (diff_under (placed own) (diff_shown d))) order)

-- a variable of the clause, and a bound one
pub own_numbered : (own bound : List ℕ) (first next x n : ℕ) → x < first → n ≡ place_of x own → Leaf n ≡ numbered_by own bound first next x
own_numbered own bound first next x n least is = ap Leaf is ∙ sym (ap (λ b. cond b (Leaf (place_of x own)) (Leaf (place_of (x - first) bound + next))) (lt-ltb x first least))

pub bound_numbered : (own bound : List ℕ) (first next x n : ℕ) → first ≤ x → n ≡ place_of (x - first) bound + next → Leaf n ≡ numbered_by own bound first next x
bound_numbered own bound first next x n over is = ap Leaf is ∙ sym (ap (λ b. cond b (Leaf (place_of x own)) (Leaf (place_of (x - first) bound + next))) (le-ltb x first over))

-- a number that stands among others has a place before their end
pub place_within : (x : ℕ) (xs : List ℕ) → list_any (nat_eq x) xs ≡ true → place_of x xs < length xs
place_within x [] stands = absurd (let clash = stands in cc)
place_within x (y ∷ ys) stands = go (nat_eq x y) stands (place_within x ys) where
  go : (b : Bool) → (b || list_any (nat_eq x) ys) ≡ true → (list_any (nat_eq x) ys ≡ true → place_of x ys < length ys) → cond b 0 (suc (place_of x ys)) < suc (length ys)
  go true e later = omega arith
  go false e later = let here = later e in omega arith

pub passing_all : (P : ℕ → Type 0) (p : ℕ → Bool) (xs : List ℕ) → AllByRecursion P (filter p xs) → AllByRecursion (λ x. p x ≡ true → P x) xs
passing_all P p [] a = tt
passing_all P p (x ∷ xs) a = go (p x) refl a (passing_all P p xs) where
  go : (b : Bool) → p x ≡ b → AllByRecursion P (cond b (x ∷ filter p xs) (filter p xs)) → (AllByRecursion P (filter p xs) → AllByRecursion (λ y. p y ≡ true → P y) xs) → (p x ≡ true → P x) × AllByRecursion (λ y. p y ≡ true → P y) xs
  go true e a later = (λ _. a.0, later a.1)
  go false e a later = (λ f. absurd (let clash = sym e ∙ f in cc), later a)

-- so the clause's variables in a constraint have their places before those that it binds
own_below : (own : List ℕ) (next : ℕ) (d : Shown) → next ≡ length own → AllByRecursion (λ x. list_any (nat_eq x) own ≡ true) (diff_variables (diff_shown d)) → AllByRecursion (λ x. x < d.first → place_of x own < next) (shown_variables d)
own_below own next d end stand =
    let passing = passing_all (λ x. list_any (nat_eq x) own ≡ true) (λ x. nat_lt x d.first) (shown_variables d) (subst (AllByRecursion (λ x. list_any (nat_eq x) own ≡ true)) (shown-own d) stand) in
    all_weaker (λ x. nat_lt x d.first ≡ true → list_any (nat_eq x) own ≡ true) (λ x. x < d.first → place_of x own < next) (λ x stands least. let within = place_within x own (stands (lt-ltb x d.first least)) in omega arith) (shown_variables d) passing

-- The constraint that is made of the terms of both sides.
pub numbered_named : (old mid new : List Term) (d made : DiffOf Id) (own bound : List ℕ) → IsDiffIn old d → Grows old mid → Grows mid new → made.first ≡ length own → bound ≡ distinct nat_eq (bound_variables (diff_at old d))
    → AllByRecursion (λ x. list_any (nat_eq x) own ≡ true) (diff_variables (diff_at old d))
    → NameTerms mid made.left (map (bind (numbered_by own bound d.first made.first)) (map (tree_at old) d.left)) → NameTerms new made.right (map (bind (numbered_by own bound d.first made.first)) (map (tree_at mid) d.right))
    → NamesDiff new made (numbered_diff (diff_under (placed own) (diff_at old d)))
numbered_named old mid new d made own bound known to_mid to_new end order stand lefts rights =
    let s = numbered_by own bound d.first made.first in
    let left = NameTerms-grows mid new made.left (map (bind s) (map (tree_at old) d.left)) to_new lefts in
    let right = rights.are ∙ ap (map (bind s)) (trees_at-grow old mid d.right to_mid known.right) in
    record {
      known = record { left = left.known; right = rights.known };
      is = (λ i. diff_shown record { first = made.first; left = left.are i; right = right i }) ∙ shown-numbered own bound made.first (shown_at old d) order (own_below own made.first (shown_at old d) end stand);
    }

pub numbered_made : (old mid new : List Term) (d : DiffOf Id) (own bound : List ℕ) (first next : ℕ) (left right lefts rights : List Id) → IsDiffIn old d → Grows old mid → Grows mid new → next ≡ length own → bound ≡ distinct nat_eq (bound_variables (diff_at old d))
    → AllByRecursion (λ x. list_any (nat_eq x) own ≡ true) (diff_variables (diff_at old d)) → first ≡ d.first → lefts ≡ d.left → rights ≡ d.right
    → NameTerms mid left (map (bind (numbered_by own bound first next)) (map (tree_at old) lefts)) → NameTerms new right (map (bind (numbered_by own bound first next)) (map (tree_at mid) rights))
    → NamesDiff new record { first = next; left = left; right = right } (numbered_diff (diff_under (placed own) (diff_at old d)))
numbered_made old mid new d own bound first next left right lefts rights known to_mid to_new end order stand is is_left is_right names_left names_right =
    numbered_named old mid new d record { first = next; left = left; right = right } own bound known to_mid to_new end order stand
    (subst (λ (l : List Term). NameTerms mid left l) (λ i. map (bind (numbered_by own bound (is i) next)) (map (tree_at old) (is_left i))) names_left)
    (subst (λ (l : List Term). NameTerms new right l) (λ i. map (bind (numbered_by own bound (is i) next)) (map (tree_at mid) (is_right i))) names_right)
