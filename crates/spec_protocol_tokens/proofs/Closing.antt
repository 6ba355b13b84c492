-- The end of a comment, as a search from the front finds it.
use Rattle.std.proofs.Common.{◌≡◌, ℕ, ◌+◌, ◌<◌, true, false, List, ◌∷◌, length, drop, get_or, Option, Some, None, refl, ap, ◌∙◌, arith, add-one, drop-cons}
use Rattle.std.specs.Prelude.{codes, option_map}
use Rattle.spec_protocol_tokens.specs.Piece.{begins, closed_after}

-- nothing added to what there is
pub option_map_zero : (o : Option ℕ) → o ≡ option_map (λ n. 0 + n) o
option_map_zero None = refl
option_map_zero (Some n) = let e : n ≡ 0 + n = omega arith in ap Some e

-- one added, and then i, is i + 1 added
pub option_map_one : (i : ℕ) (o : Option ℕ) → option_map (λ n. i + n) (option_map (λ n. 1 + n) o) ≡ option_map (λ n. (i + 1) + n) o
option_map_one i None = refl
option_map_one i (Some n) = let e : i + (1 + n) ≡ (i + 1) + n = omega arith in ap Some e

-- the end is not here: it is one byte further from here than from the next place
pub closed_after-drop : (bytes : List ℕ) (i : ℕ) → i < length bytes → begins (codes "*)") (drop i bytes) ≡ false → closed_after (drop i bytes) ≡ option_map (λ n. 1 + n) (closed_after (drop (i + 1) bytes))
closed_after-drop bytes i within other =
    let e : drop i bytes ≡ get_or bytes i 0 ∷ drop (i + 1) bytes = rw (add-one, drop-cons bytes i 0) refl in
    let other' = rw e at other in
    rw (e, other') refl

-- a search that has come to i goes on
pub closed_after_more : (bytes : List ℕ) (i : ℕ) → i < length bytes → closed_after bytes ≡ option_map (λ n. i + n) (closed_after (drop i bytes)) → begins (codes "*)") (drop i bytes) ≡ false → closed_after bytes ≡ option_map (λ n. (i + 1) + n) (closed_after (drop (i + 1) bytes))
closed_after_more bytes i within so_far other =
    so_far ∙ (ap (option_map (λ n. i + n)) (closed_after-drop bytes i within other) ∙ option_map_one i (closed_after (drop (i + 1) bytes)))

-- a search finds the end at i
pub closed_after_here : (bytes : List ℕ) (i : ℕ) → i < length bytes → closed_after bytes ≡ option_map (λ n. i + n) (closed_after (drop i bytes)) → begins (codes "*)") (drop i bytes) ≡ true → closed_after bytes ≡ Some (i + 2)
closed_after_here bytes i within so_far here =
    let e : drop i bytes ≡ get_or bytes i 0 ∷ drop (i + 1) bytes = rw (add-one, drop-cons bytes i 0) refl in
    let here' = rw e at here in
    let found : closed_after (drop i bytes) ≡ Some 2 = rw (e, here') refl in
    so_far ∙ ap (option_map (λ n. i + n)) found
