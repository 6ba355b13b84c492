-- The work list of pending entries, step by step: what comes of the start is what was told so far, and then what comes of the entries that
-- are left.
use Rattle.std.proofs.Common.{◌≡◌, ◌∙◌, ℕ, ◌+◌, ◌≤◌, List, [], ◌∷◌, ◌++◌, length, refl, ap, sym, subst, append_assoc, append-nil, length-append, arith}
use Rattle.spec_saturation.specs.Key.{Entry}
use Rattle.spec_attack_runs.specs.Source.{Source}
use Rattle.spec_attack_runs.specs.Instance.{Pending, IsGiven, IsResolved, Come, nothing, given, resolved}
use Rattle.spec_attack_runs.proofs.OneDescent.{given_same, not_both, resolved_same}

module _ (sources : List Source) (log : List Entry) where
  -- of the entries at the start these instances were told, and these entries are left, where the next name has the number n
  pub record AreLeft (first : ℕ) (start : List Pending) (told : List Source) (n : ℕ) (ps : List Pending) : Type 0 where
    pub whole : (others : List Source) → Come sources log n ps others → Come sources log first start (told ++ others)
    pub rest : (all : List Source) → Come sources log first start all → (others : List Source) × Come sources log n ps others × (all ≡ told ++ others)

  pub all_left : (n : ℕ) (ps : List Pending) → AreLeft n ps [] n ps
  all_left n ps = record { whole = λ others h. h; rest = λ all h. (all, h, refl) }

  -- what comes of a given entry and others
  come_given : (p : Pending) (n m : ℕ) (i : Source) (ps : List Pending) (all : List Source) → IsGiven sources log p n i m → Come sources log n (p ∷ ps) all
      → (others : List Source) × Come sources log m ps others × (all ≡ i ∷ others)
  come_given p n m i ps all x (given {m = k} {instance = j} {instances = js} y ys) =
      let same = given_same sources log p n m k i j x y in
      (js, subst (λ (d : ℕ). Come sources log d ps js) (sym same.1) ys, ap (λ (s : Source). s ∷ js) (sym same.0))
  come_given p n m i ps all x (resolved {m = k} {left = left} {right = right} y ys) = absurd (not_both sources log p left right n m k i x y)

  -- what comes of a resolvent and others
  come_resolved : (p left right : Pending) (n m : ℕ) (ps : List Pending) (all : List Source) → IsResolved log p n left right m → Come sources log n (p ∷ ps) all → Come sources log m (left ∷ right ∷ ps) all
  come_resolved p left right n m ps all x (given {m = k} {instance = j} y ys) = absurd (not_both sources log p left right n k m j y x)
  come_resolved p left right n m ps all x (resolved {m = k} {left = others} {right = rest} y ys) =
      let same = resolved_same log p left right others rest n m k x y in
      let first : Come sources log k (others ∷ right ∷ ps) all = subst (λ (r : Pending). Come sources log k (others ∷ r ∷ ps) all) (sym same.1) ys in
      let second : Come sources log k (left ∷ right ∷ ps) all = subst (λ (l : Pending). Come sources log k (l ∷ right ∷ ps) all) (sym same.0) first in
      subst (λ (d : ℕ). Come sources log d (left ∷ right ∷ ps) all) (sym same.2) second

  -- one more instance is told
  pub given_on : (first : ℕ) (start : List Pending) (told : List Source) (n m : ℕ) (p : Pending) (ps : List Pending) (i : Source) → AreLeft first start told n (p ∷ ps) → IsGiven sources log p n i m → AreLeft first start (told ++ i ∷ []) m ps
  given_on first start told n m p ps i left x = record {
    whole = λ others h. subst (λ (xs : List Source). Come sources log first start xs) (sym (append_assoc told (i ∷ []) others)) (left.whole (i ∷ others) (given x h));
    rest = λ all h.
        let before = left.rest all h in
        let here = come_given p n m i ps before.0 x before.1 in
        (here.0, here.1, before.2 ∙ (ap (λ (xs : List Source). told ++ xs) here.2 ∙ sym (append_assoc told (i ∷ []) here.0)));
  }

  -- a resolvent gives way to its parents
  pub resolved_on : (first : ℕ) (start : List Pending) (told : List Source) (n m : ℕ) (p l r : Pending) (ps : List Pending) → AreLeft first start told n (p ∷ ps) → IsResolved log p n l r m → AreLeft first start told m (l ∷ r ∷ ps)
  resolved_on first start told n m p l r ps left x = record {
    whole = λ others h. left.whole others (resolved x h);
    rest = λ all h. let before = left.rest all h in (before.0, come_resolved p l r n m ps before.0 x before.1, before.2);
  }

  -- where an entry is neither, nothing comes of it
  come_none : (p : Pending) (n : ℕ) (ps : List Pending) (all : List Source) → ((i : Source) (m : ℕ) → IsGiven sources log p n i m → ⊥) → ((l r : Pending) (m : ℕ) → IsResolved log p n l r m → ⊥) → Come sources log n (p ∷ ps) all → ⊥
  come_none p n ps all g r (given {m = k} {instance = j} y ys) = g j k y
  come_none p n ps all g r (resolved {m = k} {left = left} {right = right} y ys) = r left right k y

  pub none_on : (first : ℕ) (start : List Pending) (told : List Source) (n : ℕ) (p : Pending) (ps : List Pending) → AreLeft first start told n (p ∷ ps)
      → ((i : Source) (m : ℕ) → IsGiven sources log p n i m → ⊥) → ((l r : Pending) (m : ℕ) → IsResolved log p n l r m → ⊥) → (all : List Source) → Come sources log first start all → ⊥
  none_on first start told n p ps left g r all h = let before = left.rest all h in come_none p n ps before.0 g r before.1

  -- at the end what was told is all
  pub come_end : (first : ℕ) (start : List Pending) (told : List Source) (n : ℕ) → AreLeft first start told n [] → Come sources log first start told
  come_end first start told n left = subst (λ (xs : List Source). Come sources log first start xs) (append-nil told) (left.whole [] nothing)

  -- each entry that is left gives one instance at least
  come_long : (n : ℕ) (ps : List Pending) (all : List Source) → Come sources log n ps all → length ps ≤ length all
  come_long n ps all nothing = omega arith
  come_long n ps all (given {m = m} {ps = others} {instances = is} x xs) = omega (arith, come_long m others is xs)
  come_long n ps all (resolved {m = m} {left = left} {right = right} {ps = others} x xs) = omega (arith, come_long m (left ∷ right ∷ others) all xs)

  pub told_long : (first : ℕ) (start : List Pending) (told : List Source) (n : ℕ) (ps : List Pending) → AreLeft first start told n ps → (all : List Source) → Come sources log first start all → length told + length ps ≤ length all
  told_long first start told n ps left all h =
      let before = left.rest all h in
      omega (arith, come_long n ps before.0 before.1, ap length before.2, length-append told before.0)
