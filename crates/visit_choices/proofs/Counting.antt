-- Products of numbers, as far as they are told.
use Rattle.std.proofs.Common.{◌≡◌, ◌∙◌, ℕ, zero, suc, ◌*◌, ◌<◌, ◌≤◌, min, nat_le, Bool, true, false, refl, ap, arith}
use Rattle.std.proofs.lemmas.Bool.Decides.{nat_tests}

-- the product up to here, told up to the greatest number, and what is to be multiplied yet
pub record IsProduct (most rest whole count : ℕ) : Type 0 where
  pub product : ℕ
  pub is : count ≡ min product most
  pub all : product * rest ≡ whole

pub one_product : (most whole : ℕ) → 0 < most → IsProduct most whole whole 1
one_product most whole some = record { product = 1; is = omega (arith, some); all = omega arith }

min_product : (most a n : ℕ) → min (min a most * n) most ≡ min (a * n) most
min_product most a zero = omega arith
min_product most a (suc n) = go (nat_le a most) refl where
  go : (b : Bool) → nat_le a most ≡ b → min (min a most * suc n) most ≡ min (a * suc n) most
  go true h =
      let low : a ≤ most = grind (arith, nat_tests, h) in
      let is : min a most ≡ a = omega (arith, low) in ap (λ k. min (k * suc n) most) is
  go false h =
      let up : most < a = grind (arith, nat_tests, h) in
      let is : min a most ≡ most = omega (arith, up) in
      let full : min (most * suc n) most ≡ min (a * suc n) most = omega (arith, up) in ap (λ k. min (k * suc n) most) is ∙ full

pub more_product : (most n rest whole count next : ℕ) → IsProduct most (n * rest) whole count → next ≡ min (count * n) most → IsProduct most rest whole next
more_product most n rest whole count next was e = record {
  product = was.product * n;
  is = e ∙ (ap (λ k. min (k * n) most) was.is ∙ min_product most was.product n);
  all = omega (arith, was.all);
}

pub whole_product : (most whole count : ℕ) → whole < most → IsProduct most 1 whole count → count ≡ whole
whole_product most whole count few was = omega (arith, was.is, was.all, few)
