-- How many bytes pieces take.
use Rattle.std.proofs.Common.{◌≡◌, ◌≢◌, ℕ, ◌+◌, ◌-◌, ◌<◌, ◌≤◌, Bool, true, false, cond, ◌||◌, List, [], ◌∷◌, ◌++◌, length, drop, Option, Some, None, refl, ap, subst, arith, max, leb, eqb, get_or, length-append, length-drop}
use Rattle.std.specs.Prelude.{codes, option_map, ◌==◌}
use Rattle.std.specs.List.{prefix_len}
use Rattle.std.specs.Char.{is_ascii_digit}
use Rattle.std.specs.Int.{is_in_range}
use Rattle.std.proofs.lemmas.List.Sums.{prefix_len-le-length}
use Rattle.std.proofs.lemmas.Slice.Eq.{starts_is}
use Rattle.std.proofs.lemmas.Bool.{eqb-false}
use Rattle.std.proofs.lemmas.Bool.Decides.{Decides-eqb}
use Rattle.spec_calculus.specs.Bounds.{most_digits}
use Rattle.spec_protocol_tokens.specs.Token.{Number, Symbol}
use Rattle.spec_protocol_tokens.specs.Bytes.{is_blank, begins_word, is_in_word, symbols}
use Rattle.spec_protocol_tokens.specs.Laws.{FitsIn}
use Rattle.spec_protocol_tokens.specs.Piece.{Piece, Lexeme, Refused, begins, longest_front, closed_after, comment_of, number_of, symbol_of, piece_from, piece, LongNumber, BadByte}

-- what holds of both values holds of the one that the test picks
pub either_way : {X : Type 0} (P : X → Type 0) (b : Bool) (x y : X) → (b ≡ true → P x) → (b ≡ false → P y) → P (cond b x y)
either_way P true x y first second = first refl
either_way P false x y first second = second refl

-- bytes that begin with a text are the text and what is left
pub begins_splits : (text bytes : List ℕ) → begins text bytes ≡ true → bytes ≡ text ++ drop (length text) bytes
begins_splits text bytes front = (starts_is Decides-eqb bytes text (begins text bytes) refl).0 front

-- so the text is no longer than they
pub begins-le : (text bytes : List ℕ) → begins text bytes ≡ true → length text ≤ length bytes
begins-le text bytes front =
    let e = ap length (begins_splits text bytes front) in
    omega (arith, e, length-append text (drop (length text) bytes))

pub longest_front-le : (texts : List (List ℕ)) (bytes : List ℕ) → longest_front texts bytes ≤ length bytes
longest_front-le [] bytes = omega arith
longest_front-le (text ∷ texts) bytes =
    let rest : longest_front texts bytes ≤ length bytes = longest_front-le texts bytes in
    either_way (λ n. n ≤ length bytes) (begins text bytes) (max (length text) (longest_front texts bytes)) (longest_front texts bytes)
    (λ front. let le : length text ≤ length bytes = begins-le text bytes front in omega (arith, le, rest)) (λ _. rest)

-- the end, where there is one, is within this many bytes
abbrev pub IsWithin : ℕ → Option ℕ → Type 0
IsWithin n None = Unit {0}
IsWithin n (Some k) = k ≤ n

pub IsWithin-suc : (m n : ℕ) (o : Option ℕ) → m ≡ 1 + n → IsWithin n o → IsWithin m (option_map (λ k. 1 + k) o)
IsWithin-suc m n None e h = tt
IsWithin-suc m n (Some k) e h = omega (arith, h, e)

pub closed_after-within : (bytes : List ℕ) → IsWithin (length bytes) (closed_after bytes)
closed_after-within [] = tt
closed_after-within (b ∷ bytes) =
    either_way (IsWithin (length (b ∷ bytes))) (begins (codes "*)") (b ∷ bytes)) (Some 2) (option_map (λ n. 1 + n) (closed_after bytes))
    (begins-le (codes "*)") (b ∷ bytes)) (λ _. IsWithin-suc (length (b ∷ bytes)) (length bytes) (closed_after bytes) (omega arith) (closed_after-within bytes))

FitsIn-comment_of : (n : ℕ) (o : Option ℕ) → 2 ≤ n → IsWithin (n - 2) o → FitsIn n (comment_of o)
FitsIn-comment_of n None two h = tt
FitsIn-comment_of n (Some k) two h = (omega arith, omega (arith, h, two))

FitsIn-number_of : (n digits : ℕ) → 0 < digits → digits ≤ n → FitsIn n (number_of digits)
FitsIn-number_of n digits some all =
    either_way (FitsIn n) (leb digits most_digits) (Lexeme Number digits) (Refused LongNumber) (λ _. (some, all)) (λ _. tt)

FitsIn-symbol_of : (n size : ℕ) → size ≤ n → FitsIn n (symbol_of size)
FitsIn-symbol_of n size all =
    either_way (FitsIn n) (eqb size 0) (Refused BadByte) (Lexeme Symbol size)
    (λ _. tt) (λ other. let some : size ≢ 0 = eqb-false size 0 other in (omega (arith, some), all))

-- of five tests one of the middle three passes
one_of_five : (v w x y z : Bool) → ((w || x) || y) ≡ true → ((((v || w) || x) || y) || z) ≡ true
one_of_five true w x y z h = refl
one_of_five false true x y z h = refl
one_of_five false false true y z h = refl
one_of_five false false false true z h = refl
one_of_five false false false false z h = cc

-- a word goes on with what it begins with
pub begins_word-in_word : (b : ℕ) → begins_word b ≡ true → is_in_word b ≡ true
begins_word-in_word b first =
    one_of_five (is_ascii_digit b) (is_in_range 65 90 b) (is_in_range 97 122 b) (b == 95) (b == 39) first

-- a front whose first passes the test is no empty one
pub prefix_len-positive : (p : ℕ → Bool) (b : ℕ) (bytes : List ℕ) → p b ≡ true → 0 < prefix_len p (b ∷ bytes)
prefix_len-positive p b bytes passes = rw passes (omega arith)

-- what stands in front of some bytes
pub piece_fits : (b : ℕ) (bytes : List ℕ) → FitsIn (length (b ∷ bytes)) (piece (b ∷ bytes))
piece_fits b bytes =
    let P : Piece → Type 0 = FitsIn (length (b ∷ bytes)) in
    either_way P (is_blank b) _ _ (λ _. omega arith) (λ _.
    either_way P (begins_word b) _ _ (λ first. (prefix_len-positive is_in_word b bytes (begins_word-in_word b first), prefix_len-le-length is_in_word (b ∷ bytes))) (λ _.
    either_way P (is_ascii_digit b) _ _ (λ first. FitsIn-number_of (length (b ∷ bytes)) (prefix_len is_ascii_digit (b ∷ bytes)) (prefix_len-positive is_ascii_digit b bytes first) (prefix_len-le-length is_ascii_digit (b ∷ bytes))) (λ _.
    either_way P (begins (codes "(*") (b ∷ bytes)) _ _
    (λ front. let two : 2 ≤ length (b ∷ bytes) = begins-le (codes "(*") (b ∷ bytes) front in
    let h : IsWithin (length (b ∷ bytes) - 2) (closed_after (drop 2 (b ∷ bytes))) = subst (λ n. IsWithin n (closed_after (drop 2 (b ∷ bytes)))) (length-drop 2 (b ∷ bytes)) (closed_after-within (drop 2 (b ∷ bytes))) in
    FitsIn-comment_of (length (b ∷ bytes)) (closed_after (drop 2 (b ∷ bytes))) two h) (λ _.
    FitsIn-symbol_of (length (b ∷ bytes)) (longest_front symbols (b ∷ bytes)) (longest_front-le symbols (b ∷ bytes))))))

-- the same of some bytes of which there is one
pub piece_fits_in : (bytes : List ℕ) → 0 < length bytes → FitsIn (length bytes) (piece bytes)
piece_fits_in [] some = absurd (omega (arith, some))
piece_fits_in (b ∷ bytes) some = piece_fits b bytes

-- and what stands there goes by their first
pub piece_first : (bytes : List ℕ) → 0 < length bytes → piece bytes ≡ piece_from (get_or bytes 0 0) bytes
piece_first [] some = absurd (omega (arith, some))
piece_first (b ∷ bytes) some = refl
