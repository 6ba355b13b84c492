-- Bytes that have tokens hold a `(*` exactly where one of their pieces is a comment.
use Rattle.std.proofs.Common.{◌≡◌, ℕ, ◌+◌, ◌<◌, ◌⊎◌, Bool, true, false, cond, ◌||◌, ◌&&◌, not, List, [], ◌∷◌, ◌++◌, length, drop, Option, Some, None, suc, max, eqb, leb, refl, ap, sym, ◌∙◌, subst, arith, inl, inr}
use Rattle.std.specs.Prelude.{codes}
use Rattle.std.specs.List.{prefix_len, list_any, list_all}
use Rattle.std.specs.Char.{is_ascii_digit}
use Rattle.std.proofs.lemmas.Bool.{eqb-true, eqb-false, cases_lt, not-true}
use Rattle.std.proofs.lemmas.List.{drop-drop}
use Rattle.std.proofs.Math.Seq.{drop-length}
use Rattle.spec_calculus.specs.Bounds.{most_digits}
use Rattle.spec_protocol_tokens.specs.Token.{Token, Number, Symbol}
use Rattle.spec_protocol_tokens.specs.Bytes.{is_blank, begins_word, is_in_word, symbols}
use Rattle.spec_protocol_tokens.specs.Laws.{holds_comment, is_comment}
use Rattle.spec_protocol_tokens.specs.Piece.{Piece, LongNumber, BadByte, Nothing, Blank, Comment, Lexeme, Refused, begins, longest_front, closed_after, comment_of, number_of, symbol_of, piece, size_of}
use Rattle.spec_protocol_tokens.specs.Lexed.{Covers, Lexed}
use Rattle.spec_protocol_tokens.proofs.Sizes.{either_way, begins_splits}

-- a comment doesn't begin with another byte than `(`
pub begins-other : (b : ℕ) (bytes : List ℕ) → eqb 40 b ≡ false → begins (codes "(*") (b ∷ bytes) ≡ false
begins-other b bytes other = rw other refl

-- nor with a byte of a class that lacks `(`
pub class_lacks : (p : ℕ → Bool) → p 40 ≡ false → (b : ℕ) → p b ≡ true → eqb 40 b ≡ false
class_lacks p lacks b passes = by_test (eqb 40 b) refl
  where
    by_test : (t : Bool) → eqb 40 b ≡ t → t ≡ false
    by_test false e = refl
    by_test true e = let same : 40 ≡ b = eqb-true 40 b e in let wrong : true ≡ false = sym passes ∙ (ap p (sym same) ∙ lacks) in absurd (cc wrong)

-- a byte with which no comment begins is skipped
pub holds_comment-skip : (b : ℕ) (bytes : List ℕ) → eqb 40 b ≡ false → holds_comment (b ∷ bytes) ≡ holds_comment bytes
holds_comment-skip b bytes other = rw other refl

-- one place further behind one byte more
pub drop-next : (m n : ℕ) (b : ℕ) (bytes : List ℕ) → m ≡ 1 + n → drop m (b ∷ bytes) ≡ drop n bytes
drop-next m n b bytes e = let more : m ≡ suc n = omega (arith, e) in rw more refl

-- neither of two tests passes, or both do
pub or-false : (x y : Bool) → (x || y) ≡ false → (x ≡ false) × (y ≡ false)
or-false false y e = (refl, e)
or-false true y e = absurd (cc e)

pub and-true : (x y : Bool) → (x && y) ≡ true → (x ≡ true) × (y ≡ true)
and-true true y e = (refl, e)
and-true false y e = absurd (cc e)

-- a front of bytes of such a class is skipped
pub holds_comment-prefix_len : (p : ℕ → Bool) → p 40 ≡ false → (bytes : List ℕ) → holds_comment bytes ≡ holds_comment (drop (prefix_len p bytes) bytes)
holds_comment-prefix_len p lacks [] = refl
holds_comment-prefix_len p lacks (b ∷ bytes) = by_test (p b) refl (holds_comment-prefix_len p lacks bytes)
  where
    by_test : (t : Bool) → p b ≡ t → holds_comment bytes ≡ holds_comment (drop (prefix_len p bytes) bytes) → holds_comment (b ∷ bytes) ≡ holds_comment (drop (cond t (1 + prefix_len p bytes) 0) (b ∷ bytes))
    by_test false e rest = refl
    by_test true e rest =
        holds_comment-skip b bytes (class_lacks p lacks b e) ∙ (rest ∙ ap holds_comment (sym (drop-next (1 + prefix_len p bytes) (prefix_len p bytes) b bytes refl)))

-- so is a text behind its first byte, where it lacks `(`
pub holds_comment-append : (text rest : List ℕ) → list_any (eqb 40) text ≡ false → holds_comment (text ++ rest) ≡ holds_comment rest
holds_comment-append [] rest lacks = refl
holds_comment-append (c ∷ text) rest lacks =
    holds_comment-skip c (text ++ rest) (or-false (eqb 40 c) (list_any (eqb 40) text) lacks).0
    ∙ holds_comment-append text rest (or-false (eqb 40 c) (list_any (eqb 40) text) lacks).1

-- the text holds `(` at most as its first byte
abbrev pub is_open_first : List ℕ → Bool
is_open_first [] = true
is_open_first (c ∷ text) = not (list_any (eqb 40) text)

-- nothing or what holds no comment is skipped
abbrev pub Skips : List ℕ → ℕ → Type 0
Skips bytes n = (n ≡ 0) ⊎ (holds_comment bytes ≡ holds_comment (drop n bytes))

Skips-max : (bytes : List ℕ) (m n : ℕ) → Skips bytes m → Skips bytes n → Skips bytes (max m n)
Skips-max bytes m n first second =
    elim (cases_lt m n) [
      | inl lt ↦ (let e : n ≡ max m n = omega arith in subst (Skips bytes) e second)
      | inr ge ↦ (let e : m ≡ max m n = omega arith in subst (Skips bytes) e first)
    ]

Skips-text : (text bytes : List ℕ) → is_open_first text ≡ true → begins (codes "(*") bytes ≡ false → begins text bytes ≡ true → Skips bytes (length text)
Skips-text [] bytes opens other front = inl refl
Skips-text (c ∷ text) bytes opens other front =
    let rest : List ℕ = drop (length (c ∷ text)) bytes in
    let e : bytes ≡ c ∷ (text ++ rest) = begins_splits (c ∷ text) bytes front in
    let other' : begins (codes "(*") (c ∷ (text ++ rest)) ≡ false = ap (begins (codes "(*")) (sym e) ∙ other in
    let first : holds_comment (c ∷ (text ++ rest)) ≡ holds_comment (text ++ rest) = ap (λ t. t || holds_comment (text ++ rest)) other' in
    inr (ap holds_comment e ∙ (first ∙ holds_comment-append text rest (not-true (list_any (eqb 40) text) opens)))

Skips-longest_front : (texts : List (List ℕ)) (bytes : List ℕ) → list_all is_open_first texts ≡ true → begins (codes "(*") bytes ≡ false → Skips bytes (longest_front texts bytes)
Skips-longest_front [] bytes opens other = inl refl
Skips-longest_front (text ∷ texts) bytes opens other =
    let both = and-true (is_open_first text) (list_all is_open_first texts) opens in
    let rest : Skips bytes (longest_front texts bytes) = Skips-longest_front texts bytes both.1 other in
    either_way (Skips bytes) (begins text bytes) (max (length text) (longest_front texts bytes)) (longest_front texts bytes)
    (λ front. Skips-max bytes (length text) (longest_front texts bytes) (Skips-text text bytes both.0 other front) rest) (λ _. rest)

-- the bytes hold a comment where the piece is one, and else where those behind it do
abbrev pub Tells : List ℕ → Piece → Type 0
Tells bytes Nothing = Unit {0}
Tells bytes Blank = holds_comment bytes ≡ holds_comment (drop 1 bytes)
Tells bytes (Comment size) = holds_comment bytes ≡ true
Tells bytes (Lexeme kind size) = holds_comment bytes ≡ holds_comment (drop size bytes)
Tells bytes (Refused refusal) = Unit {0}

Tells-comment_of : (bytes : List ℕ) (o : Option ℕ) → holds_comment bytes ≡ true → Tells bytes (comment_of o)
Tells-comment_of bytes None h = tt
Tells-comment_of bytes (Some n) h = h

Tells-number_of : (bytes : List ℕ) (digits : ℕ) → holds_comment bytes ≡ holds_comment (drop digits bytes) → Tells bytes (number_of digits)
Tells-number_of bytes digits h =
    either_way (Tells bytes) (leb digits most_digits) (Lexeme Number digits) (Refused LongNumber) (λ _. h) (λ _. tt)

Tells-symbol_of : (bytes : List ℕ) (size : ℕ) → Skips bytes size → Tells bytes (symbol_of size)
Tells-symbol_of bytes size skips =
    either_way (Tells bytes) (eqb size 0) (Refused BadByte) (Lexeme Symbol size) (λ _. tt)
    (λ some. elim skips [ inl e ↦ absurd (eqb-false size 0 some e) | inr h ↦ h ])

-- what stands in front of some bytes
Tells-piece : (b : ℕ) (rest : List ℕ) → Tells (b ∷ rest) (piece (b ∷ rest))
Tells-piece b rest =
    let P : Piece → Type 0 = Tells (b ∷ rest) in
    either_way P (is_blank b) _ _ (λ blank. holds_comment-skip b rest (class_lacks is_blank refl b blank)) (λ _.
    either_way P (begins_word b) _ _ (λ _. holds_comment-prefix_len is_in_word refl (b ∷ rest)) (λ _.
    either_way P (is_ascii_digit b) _ _ (λ _. Tells-number_of (b ∷ rest) (prefix_len is_ascii_digit (b ∷ rest)) (holds_comment-prefix_len is_ascii_digit refl (b ∷ rest))) (λ _.
    either_way P (begins (codes "(*") (b ∷ rest)) _ _
    (λ front. Tells-comment_of (b ∷ rest) (closed_after (drop 2 (b ∷ rest))) (ap (λ t. t || holds_comment rest) front))
    (λ other. Tells-symbol_of (b ∷ rest) (longest_front symbols (b ∷ rest)) (Skips-longest_front symbols (b ∷ rest) refl other)))))

Tells-any : (bytes : List ℕ) → Tells bytes (piece bytes)
Tells-any [] = tt
Tells-any (b ∷ bytes) = Tells-piece b bytes

-- one more piece
Tells-more : (bytes : List ℕ) (at : ℕ) (p : Piece) (found : Bool) → 0 < size_of p → Tells (drop at bytes) p → found ≡ holds_comment (drop (at + size_of p) bytes) → (is_comment p || found) ≡ holds_comment (drop at bytes)
Tells-more bytes at Nothing found some tells rest = absurd (omega (arith, some))
Tells-more bytes at Blank found some tells rest = rest ∙ (ap holds_comment (sym (drop-drop 1 at bytes)) ∙ sym tells)
Tells-more bytes at (Comment size) found some tells rest = sym tells
Tells-more bytes at (Lexeme kind size) found some tells rest = rest ∙ (ap holds_comment (sym (drop-drop size at bytes)) ∙ sym tells)
Tells-more bytes at (Refused refusal) found some tells rest = absurd (omega (arith, some))

-- one of the pieces is a comment exactly where the bytes hold one
pub holds_comment-Covers : (bytes : List ℕ) (at : ℕ) (ps : List Piece) → Covers bytes at ps (length bytes) → list_any is_comment ps ≡ holds_comment (drop at bytes)
holds_comment-Covers bytes at [] e =
    let none : drop at bytes ≡ [] = ap (λ n. drop n bytes) e ∙ drop-length bytes in
    sym (ap holds_comment none)
holds_comment-Covers bytes at (p ∷ ps) (here, some, rest) =
    Tells-more bytes at p (list_any is_comment ps) some (subst (Tells (drop at bytes)) here (Tells-any (drop at bytes))) (holds_comment-Covers bytes (at + size_of p) ps rest)

pub holds_comment-LexedTo : (bytes : List ℕ) (tokens : List Token) (lexed : Lexed bytes tokens) → list_any is_comment lexed.pieces ≡ holds_comment bytes
holds_comment-LexedTo bytes tokens lexed = holds_comment-Covers bytes 0 lexed.pieces lexed.cover
