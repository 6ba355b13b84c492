-- Facts of two classes never meet. And lists of numbers with a number more.
use Rattle.std.proofs.Common.{◌≡◌, ◌∙◌, ℕ, zero, suc, ◌+◌, ◌*◌, ◌%◌, ◌<◌, ◌≤◌, Bool, true, false, ◌&&◌, cond, Option, Some, None, List, [], ◌∷◌, ◌++◌, length, map, get_or, set, refl, ap, sym, arith}
use Rattle.std.specs.Prelude.{nat_eq, nat_le}
use Rattle.std.specs.Global.{Vec}
use Rattle.std.proofs.lemmas.Bool.{false≢true, leb-true, eqb-true}
use Rattle.spec_trees.proofs.Equality.{and_true}
use Rattle.spec_features.specs.Features.{are_at_most}
use Rattle.spec_fingerprints.specs.Fingerprints.{Fingerprint, may_meet}
use Rattle.fact_classes.specs.declared.classes.Classes.{Classes}
use Rattle.fact_classes.specs.Classes.{is_told_at, are_told, mixed, class_of, listed, IsClassListed}

-- of numbers that are at most others, each is at most the other at its place
at_most_at : (ms ns : List ℕ) (i : ℕ) → are_at_most ms ns ≡ true → get_or ms i 0 ≤ get_or ns i 0
at_most_at [] [] zero h = omega arith
at_most_at [] [] (suc i) h = omega arith
at_most_at [] (n ∷ ns) i h = absurd (false≢true h)
at_most_at (m ∷ ms) [] i h = absurd (false≢true h)
at_most_at (m ∷ ms) (n ∷ ns) zero h = leb-true m n (and_true (nat_le m n) (are_at_most ms ns) h).0
at_most_at (m ∷ ms) (n ∷ ns) (suc i) h = at_most_at ms ns i (and_true (nat_le m n) (are_at_most ms ns) h).1

-- what is told at a position of two fingerprints that may meet is one number
told_one : (p q : Fingerprint) (i : ℕ) → may_meet p q ≡ true → is_told_at p i ≡ true → is_told_at q i ≡ true → get_or p.least i 0 ≡ get_or q.least i 0
told_one p q i meet first second =
    let ranges = (and_true (nat_eq p.head q.head) (are_at_most p.least q.most && are_at_most q.least p.most) meet).1 in
    let both = and_true (are_at_most p.least q.most) (are_at_most q.least p.most) ranges in
    let below = at_most_at p.least q.most i both.0 in
    let above = at_most_at q.least p.most i both.1 in
    let left = eqb-true (get_or p.least i 0) (get_or p.most i 0) first in
    let right = eqb-true (get_or q.least i 0) (get_or q.most i 0) second in
    omega (arith, below, above, left, right)

all_four : (a b c d : Bool) → (((a && b) && c) && d) ≡ true → (a ≡ true) × (b ≡ true) × (c ≡ true) × (d ≡ true)
all_four a b c d h =
    let x = and_true ((a && b) && c) d h in
    let y = and_true (a && b) c x.0 in
    let z = and_true a b y.0 in
    (z.0, z.1, y.1, x.1)

some_if : (b : Bool) (m n : ℕ) → cond b (Some m) None ≡ Some n → (b ≡ true) × (m ≡ n)
some_if true m n h = (refl, cc)
some_if false m n h = cc

-- facts of two classes don't meet
pub classes_apart : (p q : Fingerprint) (j k : ℕ) → class_of p ≡ Some j → class_of q ≡ Some k → (j ≡ k → ⊥) → may_meet p q ≡ false
classes_apart p q j k first second differ = go (may_meet p q) refl
  where
    same : may_meet p q ≡ true → j ≡ k
    same meet =
        let a = some_if (are_told p) (mixed p) j first in
        let b = some_if (are_told q) (mixed q) k second in
        let x = all_four (is_told_at p 0) (is_told_at p 2) (is_told_at p 16) (is_told_at p 18) a.0 in
        let y = all_four (is_told_at q 0) (is_told_at q 2) (is_told_at q 16) (is_told_at q 18) b.0 in
        let root = told_one p q 0 meet x.0 y.0 in
        let argument = told_one p q 2 meet x.1 y.1 in
        let second_root = told_one p q 16 meet x.2 y.2 in
        let second_argument = told_one p q 18 meet x.3 y.3 in
        let one : mixed p ≡ mixed q = λ i. ((root i + 5 * second_root i) + (3 * argument i + 7 * second_argument i)) % 251 in
        sym a.1 ∙ (one ∙ b.1)

    go : (b : Bool) → may_meet p q ≡ b → may_meet p q ≡ false
    go true is = absurd (differ (same is))
    go false is = is

-- an empty list more changes none
pub empty_more : (ls : List (Vec ℕ)) (v : Vec ℕ) (k : ℕ) → v.items ≡ [] → get_or (map (λ l. l.items) (ls ++ v ∷ [])) k [] ≡ get_or (map (λ l. l.items) ls) k []
empty_more [] v zero none = none
empty_more [] v (suc k) none = refl
empty_more (l ∷ ls) v zero none = refl
empty_more (l ∷ ls) v (suc k) none = empty_more ls v k none

-- a number more in one of the lists
pub number_put : (ls : List (Vec ℕ)) (class n : ℕ) (was now : Vec ℕ) → class < length ls → was ≡ get_or ls class was → now.items ≡ was.items ++ n ∷ [] → get_or (map (λ l. l.items) (set ls class now)) class [] ≡ get_or (map (λ l. l.items) ls) class [] ++ n ∷ []
number_put [] class n was now within is put = absurd (omega (arith, within))
number_put (l ∷ ls) zero n was now within is put = put ∙ ap (λ (v : Vec ℕ). v.items ++ n ∷ []) is
number_put (l ∷ ls) (suc class) n was now within is put = number_put ls class n was now (omega (arith, within)) is put

pub number_elsewhere : (ls : List (Vec ℕ)) (class other : ℕ) (now : Vec ℕ) → (other ≡ class → ⊥) → get_or (map (λ l. l.items) (set ls class now)) other [] ≡ get_or (map (λ l. l.items) ls) other []
number_elsewhere [] class other now differ = refl
number_elsewhere (l ∷ ls) zero zero now differ = absurd (differ refl)
number_elsewhere (l ∷ ls) zero (suc other) now differ = refl
number_elsewhere (l ∷ ls) (suc class) zero now differ = refl
number_elsewhere (l ∷ ls) (suc class) (suc other) now differ = number_elsewhere ls class other now (λ same. differ (ap suc same))

-- a number more of no class, or of one, changes the others in nothing
pub rest_put : (old new : Classes) (n : ℕ) → new.lists.items ≡ old.lists.items → new.rest.items ≡ old.rest.items ++ n ∷ [] → IsClassListed None n old new
rest_put old new n same put = record {
  here = put;
  elsewhere = λ other differ. go other differ;
}
  where
    go : (other : Option ℕ) → (other ≡ None → ⊥) → listed new other ≡ listed old other
    go None differ = absurd (differ refl)
    go (Some k) differ = ap (λ ls. get_or (map (λ l. l.items) ls) k []) same

pub class_put : (old reached new : Classes) (class n : ℕ) (was now : Vec ℕ) → class < length reached.lists.items → ((k : ℕ) → get_or (map (λ l. l.items) reached.lists.items) k [] ≡ get_or (map (λ l. l.items) old.lists.items) k []) → reached.rest.items ≡ old.rest.items
    → was ≡ get_or reached.lists.items class was → now.items ≡ was.items ++ n ∷ [] → new.lists.items ≡ set reached.lists.items class now → new.rest.items ≡ reached.rest.items → IsClassListed (Some class) n old new
class_put old reached new class n was now within lists rest is put news same = record {
  here = ap (λ ls. get_or (map (λ l. l.items) ls) class []) news ∙ (number_put reached.lists.items class n was now within is put ∙ ap (λ l. l ++ n ∷ []) (lists class));
  elsewhere = λ other differ. go other differ;
}
  where
    go : (other : Option ℕ) → (other ≡ Some class → ⊥) → listed new other ≡ listed old other
    go None differ = same ∙ rest
    go (Some k) differ = ap (λ ls. get_or (map (λ l. l.items) ls) k []) news ∙ (number_elsewhere reached.lists.items class k now (λ one. differ (ap Some one)) ∙ lists k)
