-- The laws of selection.
use Rattle.std.proofs.Common.{◌≡◌, ◌↔◌, ℕ, suc, ◌<◌, ◌≤◌, Bool, true, false, not, cond, Option, Some, None, List, [], ◌∷◌, ◌++◌, map, length, refl, ap, sym, ◌∙◌, subst, arith}
use Rattle.std.specs.Prelude.{nat_le, slice_get, option_map}
use Rattle.std.specs.List.{AllByRecursion}
use borrow.Author.Tests.{leb-true, leb-false, le-leb}
use Rattle.spec_trees.proofs.Equality.{and_true}
use Rattle.spec_terms.specs.Term.{Term}
use Rattle.spec_clauses.specs.Fact.{Fact, fact_size, fact_under}
use Rattle.spec_clauses.specs.Selection.{Selection, is_selectable, is_solved, behind, greater, select, IsFirstOfLargest, selection_under}
use Rattle.spec_clauses.specs.Renaming.{renaming}
use Rattle.spec_clauses.specs.Inclusion.{Picks, here}
use Rattle.spec_clauses.proofs.Lists.{all_append, all_weaker}
use Rattle.spec_clauses.proofs.Inclusion.{pick-append_right}
use Rattle.spec_clauses.proofs.Renaming.{fact_size-renamed}
use Rattle.spec_clauses.proofs.NormRenaming.{is_selectable-renamed}

-- what is selected, if anything can be
abbrev IsSelected : List (Fact Term) → Option Selection → Type 0
IsSelected hs None = is_solved hs ≡ true
IsSelected hs (Some at) = IsFirstOfLargest hs at

-- a hypothesis that can be selected is of size n at most
abbrev IsWithinSize : ℕ → Fact Term → Type 0
IsWithinSize n h = is_selectable h ≡ true → fact_size h ≤ n

solved_within : (n : ℕ) (hs : List (Fact Term)) → is_solved hs ≡ true → AllByRecursion (IsWithinSize n) hs
solved_within n [] e = tt
solved_within n (h ∷ hs) e =
    let parts = and_true (not (is_selectable h)) (is_solved hs) e in
    (λ can. absurd (let no : not (is_selectable h) ≡ true = parts.0 in cc), solved_within n hs parts.1)

selected_within : (hs : List (Fact Term)) (at : Selection) → IsFirstOfLargest hs at → AllByRecursion (IsWithinSize (fact_size at.fact)) hs
selected_within hs at s =
    let Fits = IsWithinSize (fact_size at.fact) in
    let smaller = all_weaker (λ h. is_selectable h ≡ true → fact_size h < fact_size at.fact) Fits (λ h below can. let k = below can in omega arith) s.earlier s.first in
    rw s.hypotheses (all_append Fits s.earlier (at.fact ∷ s.later) smaller ((λ can. omega arith), s.largest))

in_front : (h : Fact Term) (hs : List (Fact Term)) → is_selectable h ≡ true → AllByRecursion (IsWithinSize (fact_size h)) hs → IsFirstOfLargest (h ∷ hs) (record { index = 0; fact = h; others = hs })
in_front h hs can largest = record { earlier = []; later = hs; hypotheses = refl; others = refl; index = refl; selectable = can; first = tt; largest = largest }

further : (h : Fact Term) (hs : List (Fact Term)) (at : Selection) → (is_selectable h ≡ true → fact_size h < fact_size at.fact) → IsFirstOfLargest hs at → IsFirstOfLargest (h ∷ hs) (behind h at)
further h hs at smaller s = record {
  earlier = h ∷ s.earlier;
  later = s.later;
  hypotheses = ap (λ ks. h ∷ ks) s.hypotheses;
  others = ap (λ ks. h ∷ ks) s.others;
  index = ap suc s.index;
  selectable = s.selectable;
  first = (smaller, s.first);
  largest = s.largest;
}

step : (h : Fact Term) (hs : List (Fact Term)) (o : Option Selection) → IsSelected hs o → IsSelected (h ∷ hs) (greater h hs o)
step h hs None s = go (is_selectable h) refl where
  go : (b : Bool) → is_selectable h ≡ b → IsSelected (h ∷ hs) (cond b (Some (record { index = 0; fact = h; others = hs })) None)
  go true e = in_front h hs e (solved_within (fact_size h) hs s)
  go false e = rw e s
step h hs (Some at) s = go (is_selectable h) (nat_le (fact_size at.fact) (fact_size h)) refl refl where
  go : (b d : Bool) → is_selectable h ≡ b → nat_le (fact_size at.fact) (fact_size h) ≡ d → IsSelected (h ∷ hs) (cond b (cond d (Some (record { index = 0; fact = h; others = hs })) (Some (behind h at))) (Some (behind h at)))
  go true true e k =
      let order = leb-true (fact_size at.fact) (fact_size h) k in
      in_front h hs e (all_weaker (IsWithinSize (fact_size at.fact)) (IsWithinSize (fact_size h)) (λ g fits can. let small = fits can in omega arith) hs (selected_within hs at s))
  go true false e k = further h hs at (λ can. leb-false (fact_size at.fact) (fact_size h) k) s
  go false d e k = further h hs at (λ can. absurd (let no = e in cc)) s

selected : (hs : List (Fact Term)) → IsSelected hs (select hs)
selected [] = refl
selected (h ∷ hs) = step h hs (select hs) (selected hs)

pub select-first_of_largest : (hs : List (Fact Term)) (at : Selection) → select hs ≡ Some at → IsFirstOfLargest hs at
select-first_of_largest hs at e = subst (IsSelected hs) e (selected hs)

-- and what is the first of the largest is selected
largest_in : (n : ℕ) (earlier later : List (Fact Term)) (h : Fact Term) → AllByRecursion (IsWithinSize n) (earlier ++ h ∷ later) → IsWithinSize n h
largest_in n [] later h a = a.0
largest_in n (g ∷ earlier) later h a = largest_in n earlier later h a.1

in_front_selected : (h : Fact Term) (hs : List (Fact Term)) (o : Option Selection) → IsSelected hs o → is_selectable h ≡ true → AllByRecursion (IsWithinSize (fact_size h)) hs → greater h hs o ≡ Some (record { index = 0; fact = h; others = hs })
in_front_selected h hs None s can a = rw can refl
in_front_selected h hs (Some at) s can a =
    let order : fact_size at.fact ≤ fact_size h = largest_in (fact_size h) s.earlier s.later at.fact (subst (AllByRecursion (IsWithinSize (fact_size h))) s.hypotheses a) s.selectable in
    rw (can, le-leb (fact_size at.fact) (fact_size h) order) refl

greater_behind : (g : Fact Term) (hs : List (Fact Term)) (at : Selection) → (is_selectable g ≡ true → fact_size g < fact_size at.fact) → greater g hs (Some at) ≡ Some (behind g at)
greater_behind g hs at smaller = go (is_selectable g) refl where
  passed : (d : Bool) → nat_le (fact_size at.fact) (fact_size g) ≡ d → fact_size g < fact_size at.fact → cond d (Some (record { index = 0; fact = g; others = hs })) (Some (behind g at)) ≡ Some (behind g at)
  passed true e below = let order = leb-true (fact_size at.fact) (fact_size g) e in absurd (omega arith)
  passed false e below = refl

  go : (b : Bool) → is_selectable g ≡ b → cond b (cond (nat_le (fact_size at.fact) (fact_size g)) (Some (record { index = 0; fact = g; others = hs })) (Some (behind g at))) (Some (behind g at)) ≡ Some (behind g at)
  go true can = passed (nat_le (fact_size at.fact) (fact_size g)) refl (smaller can)
  go false e = refl

select_at : (h : Fact Term) (earlier later : List (Fact Term)) → is_selectable h ≡ true → AllByRecursion (λ g. is_selectable g ≡ true → fact_size g < fact_size h) earlier → AllByRecursion (IsWithinSize (fact_size h)) later
    → select (earlier ++ h ∷ later) ≡ Some (record { index = length earlier; fact = h; others = earlier ++ later })
select_at h [] later can a b = in_front_selected h later (select later) (selected later) can b
select_at h (g ∷ earlier) later can a b =
    ap (greater g (earlier ++ h ∷ later)) (select_at h earlier later can a.1 b) ∙ greater_behind g (earlier ++ h ∷ later) (record { index = length earlier; fact = h; others = earlier ++ later }) a.0

pub select-decides : (hs : List (Fact Term)) (at : Selection) → (select hs ≡ Some at) ↔ IsFirstOfLargest hs at
select-decides hs at = (
  select-first_of_largest hs at,
  λ s. ap select s.hypotheses ∙ (select_at at.fact s.earlier s.later s.selectable s.first s.largest ∙ (λ i. Some (record { index = sym s.index i; fact = at.fact; others = sym s.others i }))),
)

-- nothing is selected exactly where the hypotheses are solved
select-unsolved : (hs : List (Fact Term)) → is_solved hs ≡ true → select hs ≡ None
select-unsolved [] e = refl
select-unsolved (h ∷ hs) e =
    let parts = and_true (not (is_selectable h)) (is_solved hs) e in
    let none : select hs ≡ None = select-unsolved hs parts.1 in
    ap (greater h hs) none ∙ go (is_selectable h) parts.0 where
      go : (b : Bool) → not b ≡ true → ◌≡◌ {A = Option Selection} (cond b (Some (record { index = 0; fact = h; others = hs })) None) None
      go true e = cc
      go false e = refl

pub select-none : (hs : List (Fact Term)) → (select hs ≡ None) ↔ (is_solved hs ≡ true)
select-none hs = (λ e. subst (IsSelected hs) e (selected hs), select-unsolved hs)

-- the selected hypothesis is picked out of the hypotheses
pub select-picks : (hs : List (Fact Term)) (at : Selection) → select hs ≡ Some at → Picks hs at.fact at.others
select-picks hs at e =
    let s = select-first_of_largest hs at e in
    let picked = pick-append_right s.earlier (here {x = at.fact} {xs = s.later}) in
    subst (Picks hs at.fact) (sym s.others) (subst (λ ks. Picks ks at.fact (s.earlier ++ s.later)) (sym s.hypotheses) picked)

-- and stands at its place
place_in : (earlier later : List (Fact Term)) (h : Fact Term) → slice_get (earlier ++ h ∷ later) (length earlier) ≡ Some h
place_in [] later h = refl
place_in (g ∷ earlier) later h = place_in earlier later h

pub select-index : (hs : List (Fact Term)) (at : Selection) → select hs ≡ Some at → slice_get hs at.index ≡ Some at.fact
select-index hs at e =
    let s = select-first_of_largest hs at e in
    (λ i. slice_get (s.hypotheses i) (s.index i)) ∙ place_in s.earlier s.later at.fact

-- It doesn't depend on how variables are numbered.
module _ (r : ℕ → ℕ) where
  greater-renamed : (h : Fact Term) (hs : List (Fact Term)) (o : Option Selection) → greater (fact_under (renaming r) h) (map (fact_under (renaming r)) hs) (option_map (selection_under (renaming r)) o) ≡ option_map (selection_under (renaming r)) (greater h hs o)
  greater-renamed h hs None = rw (is_selectable-renamed r h) (go (is_selectable h)) where
    go : (b : Bool) → cond b (Some (record { index = 0; fact = fact_under (renaming r) h; others = map (fact_under (renaming r)) hs })) None ≡ option_map (selection_under (renaming r)) (cond b (Some (record { index = 0; fact = h; others = hs })) None)
    go true = refl
    go false = refl
  greater-renamed h hs (Some at) = rw (is_selectable-renamed r h, fact_size-renamed r h, fact_size-renamed r at.fact) (go (is_selectable h) (nat_le (fact_size at.fact) (fact_size h))) where
    go : (b d : Bool) → cond b (cond d (Some (record { index = 0; fact = fact_under (renaming r) h; others = map (fact_under (renaming r)) hs })) (Some (behind (fact_under (renaming r) h) (selection_under (renaming r) at)))) (Some (behind (fact_under (renaming r) h) (selection_under (renaming r) at))) ≡ option_map (selection_under (renaming r)) (cond b (cond d (Some (record { index = 0; fact = h; others = hs })) (Some (behind h at))) (Some (behind h at)))
    go true true = refl
    go true false = refl
    go false d = refl

  pub select-renamed : (hs : List (Fact Term)) → select (map (fact_under (renaming r)) hs) ≡ option_map (selection_under (renaming r)) (select hs)
  select-renamed [] = refl
  select-renamed (h ∷ hs) = ap (greater (fact_under (renaming r) h) (map (fact_under (renaming r)) hs)) (select-renamed hs) ∙ greater-renamed h hs (select hs)
