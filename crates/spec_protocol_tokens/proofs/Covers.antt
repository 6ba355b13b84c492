-- A row of pieces: how it goes on, that there is one, and where its tokens stand.
use Rattle.std.proofs.Common.{◌≡◌, ℕ, ◌+◌, ◌-◌, ◌<◌, ◌≤◌, List, [], ◌∷◌, ◌++◌, drop, refl, ap, sym, ◌∙◌, subst, arith, append_assoc, append-nil}
use Rattle.spec_protocol_tokens.specs.Token.{Token}
use Rattle.spec_protocol_tokens.specs.Piece.{Piece, Nothing, Blank, Comment, Lexeme, Refused, piece, size_of}
use Rattle.spec_protocol_tokens.specs.Lexed.{Covers, token_of, tokens_of, LexedTo}
use Rattle.spec_protocol_tokens.specs.Laws.{Ascend, AllStand}

-- a row goes on with the piece that stands behind it
pub Covers-push : (bytes : List ℕ) (at : ℕ) (ps : List Piece) (end : ℕ) (p : Piece) → Covers bytes at ps end → piece (drop end bytes) ≡ p → 0 < size_of p → Covers bytes at (ps ++ p ∷ []) (end + size_of p)
Covers-push bytes at [] end p e here some =
    (subst (λ n. piece (drop n bytes) ≡ p) (sym e) here, some, ap (λ n. n + size_of p) e)
Covers-push bytes at (q ∷ ps) end p (here, some, rest) now more =
    (here, some, Covers-push bytes (at + size_of q) ps end p rest now more)

-- and its tokens with the one that this piece is
pub tokens_of-push : (bytes : List ℕ) (at : ℕ) (ps : List Piece) (end : ℕ) (p : Piece) → Covers bytes at ps end → tokens_of at (ps ++ p ∷ []) ≡ tokens_of at ps ++ token_of end p
tokens_of-push bytes at [] end p e = subst (λ n. tokens_of at (p ∷ []) ≡ token_of n p) e (append-nil (token_of at p))
tokens_of-push bytes at (q ∷ ps) end p (here, some, rest) =
    ap (λ ts. token_of at q ++ ts) (tokens_of-push bytes (at + size_of q) ps end p rest) ∙ sym (append_assoc (token_of at q) (tokens_of (at + size_of q) ps) (token_of end p))

-- the tokens so far, and the piece that stands behind them
pub LexedTo-push : (bytes : List ℕ) (end : ℕ) (tokens : List Token) (p : Piece) → LexedTo bytes end tokens → piece (drop end bytes) ≡ p → 0 < size_of p → LexedTo bytes (end + size_of p) (tokens ++ token_of end p)
LexedTo-push bytes end tokens p so_far here some = record {
  pieces = so_far.pieces ++ p ∷ [];
  cover = Covers-push bytes 0 so_far.pieces end p so_far.cover here some;
  among = tokens_of-push bytes 0 so_far.pieces end p so_far.cover ∙ ap (λ ts. ts ++ token_of end p) so_far.among;
}

-- two rows from one place, each up to a place where no piece takes a byte, are one
pub Covers-one : (bytes : List ℕ) (at : ℕ) (ps qs : List Piece) (e f : ℕ) → Covers bytes at ps e → Covers bytes at qs f → size_of (piece (drop e bytes)) ≡ 0 → size_of (piece (drop f bytes)) ≡ 0 → (ps ≡ qs) × (e ≡ f)
Covers-one bytes at [] [] e f c d stop_e stop_f = (refl, sym c ∙ d)
Covers-one bytes at [] (q ∷ qs) e f c (here, some, rest) stop_e stop_f =
    let none : size_of q ≡ 0 = ap size_of (sym here) ∙ (ap (λ n. size_of (piece (drop n bytes))) c ∙ stop_e) in
    absurd (omega (arith, none, some))
Covers-one bytes at (p ∷ ps) [] e f (here, some, rest) d stop_e stop_f =
    let none : size_of p ≡ 0 = ap size_of (sym here) ∙ (ap (λ n. size_of (piece (drop n bytes))) d ∙ stop_f) in
    absurd (omega (arith, none, some))
Covers-one bytes at (p ∷ ps) (q ∷ qs) e f (here, some, rest) (here', some', rest') stop_e stop_f =
    let same : q ≡ p = sym here' ∙ here in
    let rest'' = subst (λ r. Covers bytes (at + size_of r) qs f) same rest' in
    let both = Covers-one bytes (at + size_of p) ps qs e f rest rest'' stop_e stop_f in
    (cc (same, both.0), both.1)

-- tokens between two places stand between wider ones
pub Ascend-wider : (start from end : ℕ) (ts : List Token) → start ≤ from → Ascend from ts end → Ascend start ts end
Ascend-wider start from end [] le h = omega (arith, le, h)
Ascend-wider start from end (t ∷ ts) le (behind, some, rest) = (omega (arith, le, behind), some, rest)

-- the token of a piece, and those behind it
pub Ascend-piece : (at end : ℕ) (p : Piece) (ts : List Token) → 0 < size_of p → Ascend (at + size_of p) ts end → Ascend at (token_of at p ++ ts) end
Ascend-piece at end Nothing ts some h = absurd (omega (arith, some))
Ascend-piece at end Blank ts some h = Ascend-wider at (at + 1) end ts (omega arith) h
Ascend-piece at end (Comment size) ts some h = Ascend-wider at (at + size) end ts (omega arith) h
Ascend-piece at end (Lexeme kind size) ts some h = (omega arith, omega (arith, some), h)
Ascend-piece at end (Refused refusal) ts some h = absurd (omega (arith, some))

pub Ascend-tokens_of : (bytes : List ℕ) (at : ℕ) (ps : List Piece) (end : ℕ) → Covers bytes at ps end → Ascend at (tokens_of at ps) end
Ascend-tokens_of bytes at [] end e = omega (arith, e)
Ascend-tokens_of bytes at (p ∷ ps) end (here, some, rest) =
    Ascend-piece at end p (tokens_of (at + size_of p) ps) some (Ascend-tokens_of bytes (at + size_of p) ps end rest)

-- each token of a row is what stands at its place
AllStand-piece : (bytes : List ℕ) (at : ℕ) (p : Piece) (ts : List Token) → piece (drop at bytes) ≡ p → AllStand bytes ts → AllStand bytes (token_of at p ++ ts)
AllStand-piece bytes at Nothing ts here h = h
AllStand-piece bytes at Blank ts here h = h
AllStand-piece bytes at (Comment size) ts here h = h
AllStand-piece bytes at (Lexeme kind size) ts here h =
    let e : size ≡ at + size - at = omega arith in
    (here ∙ ap (Lexeme kind) e, h)
AllStand-piece bytes at (Refused refusal) ts here h = h

pub AllStand-tokens_of : (bytes : List ℕ) (at : ℕ) (ps : List Piece) (end : ℕ) → Covers bytes at ps end → AllStand bytes (tokens_of at ps)
AllStand-tokens_of bytes at [] end e = tt
AllStand-tokens_of bytes at (p ∷ ps) end (here, some, rest) =
    AllStand-piece bytes at p (tokens_of (at + size_of p) ps) here (AllStand-tokens_of bytes (at + size_of p) ps end rest)
