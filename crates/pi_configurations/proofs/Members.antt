-- Items that pass a test.
use Rattle.std.proofs.Common.{◌≡◌, zero, suc, Bool, true, false, ◌||◌, List, [], ◌∷◌, Contains, inl, inr, refl, ap, ◌∙◌, arith}
use Rattle.std.specs.List.{list_any}
use Rattle.spec_trees.proofs.Occurrence.{or_true}
use Rattle.spec_calculus.specs.Values.{Value, same_value}
use Rattle.spec_calculus.specs.Runs.{Configuration, knows}

-- some item passes a test
pub any-contains : {A : Type 0} (test : A → Bool) (xs : List A) → list_any test xs ≡ true → (x : A) × Contains xs x × (test x ≡ true)
any-contains test [] h = cc
any-contains {A} test (x ∷ xs) h =
    elim (or_true (test x) (list_any test xs) h) as (λ _. (y : A) × Contains (x ∷ xs) y × (test y ≡ true)) [
      | inl here ↦ (x, (0, omega arith, refl), here)
      | inr there ↦ let found = any-contains test xs there in (found.0, later x xs found.0 found.1, found.2)
    ]
  where
    later : {B : Type 0} (x : B) (xs : List B) (y : B) → Contains xs y → Contains (x ∷ xs) y
    later x xs y (k, within, at) = (suc k, omega arith, at)

-- what passes it is some item
pub any-of : {A : Type 0} (test : A → Bool) (xs : List A) (x : A) → Contains xs x → test x ≡ true → list_any test xs ≡ true
any-of test [] x (k, within, at) h = absurd (omega arith)
any-of test (y ∷ ys) x (zero, within, at) h = let e : test y ≡ true = ap test at ∙ h in ap (λ b. b || list_any test ys) e
any-of test (y ∷ ys) x (suc k, within, at) h = or_later (test y) (list_any test ys) (any-of test ys x (k, omega arith, at) h)
  where
    or_later : (a b : Bool) → b ≡ true → (a || b) ≡ true
    or_later true b h = refl
    or_later false b h = h

-- a value that equals a known one is known
pub known-of_member : (c : Configuration) (v w : Value) → Contains c.known w → same_value v w ≡ true → knows c v ≡ true
known-of_member c v w member same = any-of (same_value v) c.known w member same

pub ruleset of_members = (known-of_member)
