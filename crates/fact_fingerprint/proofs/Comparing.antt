-- From the mask of a comparison of lanes to the comparison of numbers.
use Rattle.std.proofs.Common.{◌≡◌, ℕ, ◌+◌, ◌*◌, ◌%◌, ◌^◌, Bool, ◌&&◌, cond, ltb, List, [], ◌∷◌, map, length, w16, refl, ap, ◌∙◌, arith}
use Rattle.std.specs.Prelude.{nat_le, nat_eq}
use Rattle.std.proofs.lemmas.Bool.Decides.{nat_tests}
use Rattle.std.proofs.lemmas.Simd.{mask_l-mod, length-zip2, tops_compared}
use lib.Lanes.{zip2, mask_l, top}
use Rattle.spec_features.specs.Features.{are_at_most}

-- one lane more
lane : (m n rest : ℕ) (others : Bool) → nat_eq rest 0 ≡ others → nat_eq (cond (ltb n m) 1 0 + 2 * rest) 0 ≡ (nat_le m n && others)
lane m n rest others h = grind (arith, nat_tests)

-- no bit of the mask is set exactly where no lane is greater
none_greater : (lows highs : List ℕ) → length lows ≡ length highs → nat_eq (mask_l (zip2 ltb highs lows)) 0 ≡ are_at_most lows highs
none_greater [] [] e = refl
none_greater [] (n ∷ ns) e = absurd (omega arith)
none_greater (m ∷ ms) [] e = absurd (omega arith)
none_greater (m ∷ ms) (n ∷ ns) e = lane m n (mask_l (zip2 ltb ns ms)) (are_at_most ms ns) (none_greater ms ns (omega arith))

pub compared : (lows highs : List ℕ) → length lows ≡ 32 → length highs ≡ 32
    → nat_eq (mask_l (map (top 15) (zip2 (λ a b. cond (ltb a b) 65535 0) highs lows)) % 2 ^ 64) 0 ≡ are_at_most lows highs
compared lows highs a b =
    let long = length-zip2 ltb highs lows (omega arith) in
    ap (λ ms. nat_eq (mask_l ms % 2 ^ 64) 0) (tops_compared w16 ltb highs lows)
    ∙ (ap (λ n. nat_eq n 0) (mask_l-mod (zip2 ltb highs lows) 64 (omega arith)) ∙ none_greater lows highs (omega arith))
