-- Runs of bytes that pass a test, and what stands behind them.
use Rattle.std.proofs.Common.{◌≡◌, ℕ, Bool, true, false, ◌&&◌, List, [], ◌∷◌, ◌++◌, refl, sym, ◌∙◌, ap, subst}
use Rattle.std.specs.List.{list_all}
use Rattle.spec_certificate_text.specs.Spelled.{Stops}

pub both_left : (a b : Bool) → (a && b) ≡ true → a ≡ true
both_left true b e = refl
both_left false b e = e

pub both_right : (a b : Bool) → (a && b) ≡ true → b ≡ true
both_right true b e = e
both_right false b e = absurd (cc)

pub first_same : (a b : ℕ) (x y : List ℕ) → a ∷ x ≡ b ∷ y → a ≡ b
first_same a b x y e = cc

pub later_same : (a b : ℕ) (x y : List ℕ) → a ∷ x ≡ b ∷ y → x ≡ y
later_same a b x y e = cc

-- bytes that begin with what passes are none that stop
begins_apart : (p : ℕ → Bool) (b : ℕ) (bytes rest : List ℕ) → p b ≡ true → Stops p rest → rest ≡ b ∷ bytes → ⊥
begins_apart p b bytes rest passes stops e = let fails : p b ≡ false = subst (Stops p) e stops in cc

pub record RunsApart (xs ys k l : List ℕ) : Type 0 where
  pub run : xs ≡ ys
  pub rest : k ≡ l

-- two runs with rests that stop are one run and one rest, where the texts are one
pub run_apart : (p : ℕ → Bool) (xs ys k l : List ℕ) → list_all p xs ≡ true → list_all p ys ≡ true → Stops p k → Stops p l → xs ++ k ≡ ys ++ l → RunsApart xs ys k l
run_apart p [] [] k l all_x all_y stops_k stops_l e = record { run = refl; rest = e }
run_apart p [] (y ∷ ys) k l all_x all_y stops_k stops_l e = absurd (begins_apart p y (ys ++ l) k (both_left (p y) (list_all p ys) all_y) stops_k e)
run_apart p (x ∷ xs) [] k l all_x all_y stops_k stops_l e = absurd (begins_apart p x (xs ++ k) l (both_left (p x) (list_all p xs) all_x) stops_l (sym e))
run_apart p (x ∷ xs) (y ∷ ys) k l all_x all_y stops_k stops_l e =
    let later = run_apart p xs ys k l (both_right (p x) (list_all p xs) all_x) (both_right (p y) (list_all p ys) all_y) stops_k stops_l (later_same x y (xs ++ k) (ys ++ l) e) in
    let first = first_same x y (xs ++ k) (ys ++ l) e in
    record { run = ap (λ b. b ∷ xs) first ∙ ap (λ bs. y ∷ bs) later.run; rest = later.rest }
