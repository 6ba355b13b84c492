-- The order of keys: strict and total.
use Rattle.std.proofs.Common.{◌≡◌, ◌⊎◌, true, arith}
use Rattle.std.proofs.lemmas.Bool.Decides.{nat_tests}
use Rattle.spec_saturation.specs.Key.{Key, is_before}

-- no key is before itself
pub never_before_itself : (a : Key) → is_before a a ≡ true → ⊥
never_before_itself a h = grind (arith, nat_tests)

pub before_trans : (a b c : Key) → is_before a b ≡ true → is_before b c ≡ true → is_before a c ≡ true
before_trans a b c h i = grind (arith, nat_tests)

pub same_key : (a b : Key) → a.major ≡ b.major → a.minor ≡ b.minor → a.number ≡ b.number → a ≡ b
same_key a b e f g = λ i. record { major = e i; minor = f i; number = g i }

pub parts_of_key : (a b : Key) → a ≡ b → (a.major ≡ b.major) × (a.minor ≡ b.minor) × (a.number ≡ b.number)
parts_of_key a b e = (λ i. (e i).major, λ i. (e i).minor, λ i. (e i).number)

-- of two keys one is before the other, or they are one
pub compared : (a b : Key) → (is_before a b ≡ true) ⊎ ((a ≡ b) ⊎ (is_before b a ≡ true))
compared a b = grind (arith, nat_tests, same_key)
