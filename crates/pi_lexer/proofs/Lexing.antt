-- The lexer's answers, from what it has read.
use Rattle.std.proofs.Common.{◌≡◌, ℕ, ◌+◌, ◌-◌, ◌<◌, ◌≤◌, List, ◌++◌, length, take, drop, sym, ◌∙◌, ap, subst, arith, length-drop}
use Rattle.std.proofs.Math.Seq.{take-length}
use Rattle.spec_protocol_tokens.specs.Token.{Token}
use Rattle.spec_protocol_tokens.specs.Piece.{Piece, Refusal, Refused, piece, size_of}
use Rattle.spec_protocol_tokens.specs.Lexed.{LexedTo, Lexed, Stops, token_of}
use Rattle.spec_protocol_tokens.proofs.Covers.{LexedTo-push}
use Rattle.spec_protocol_tokens.proofs.Answers.{Stops-one, Lexed-not_Stops}

-- the bytes before `at` are read, and these are their tokens
pub record IsSoFar (bytes : List ℕ) (at : ℕ) (tokens : List Token) : Type 0 where
  pub within : at ≤ length bytes
  pub lexed : LexedTo bytes at tokens

-- the bytes from a place on
abbrev pub rest_of : List ℕ → ℕ → List ℕ
rest_of bytes at = take (length bytes - at) (drop at bytes)

pub rest_of-drop : (bytes : List ℕ) (at : ℕ) → rest_of bytes at ≡ drop at bytes
rest_of-drop bytes at = ap (λ n. take n (drop at bytes)) (sym (length-drop at bytes)) ∙ take-length (drop at bytes)

-- what stands there is the next piece
pub IsSoFar-push : (bytes : List ℕ) (at : ℕ) (tokens : List Token) (p : Piece) → IsSoFar bytes at tokens → p ≡ piece (rest_of bytes at) → 0 < size_of p → size_of p ≤ length (rest_of bytes at) → IsSoFar bytes (at + size_of p) (tokens ++ token_of at p)
IsSoFar-push bytes at tokens p so_far found some all =
    let e = ap length (rest_of-drop bytes at) in
    record {
      within = omega (arith, so_far.within, e, length-drop at bytes, all);
      lexed = LexedTo-push bytes at tokens p so_far.lexed (ap piece (sym (rest_of-drop bytes at)) ∙ sym found) some;
    }

-- all is read
pub Lexed-from : (bytes : List ℕ) (at : ℕ) (tokens : List Token) → IsSoFar bytes at tokens → length bytes ≤ at → Lexed bytes tokens
Lexed-from bytes at tokens so_far behind =
    let e : at ≡ length bytes = omega (arith, so_far.within, behind) in
    subst (λ n. LexedTo bytes n tokens) e so_far.lexed

-- what stands there is refused
pub Stops-from : (bytes : List ℕ) (at : ℕ) (tokens : List Token) (r : Refusal) → IsSoFar bytes at tokens → Refused r ≡ piece (rest_of bytes at) → Stops bytes r at
Stops-from bytes at tokens r so_far found = record {
  refused = ap piece (sym (rest_of-drop bytes at)) ∙ sym found;
  tokens = tokens;
  before = so_far.lexed;
}

-- and so the bytes have no tokens
pub none_lexed : (bytes : List ℕ) (at : ℕ) (tokens : List Token) (r : Refusal) → IsSoFar bytes at tokens → Refused r ≡ piece (rest_of bytes at) → (others : List Token) → Lexed bytes others → ⊥
none_lexed bytes at tokens r so_far found others lexed =
    Lexed-not_Stops bytes others r at lexed (Stops-from bytes at tokens r so_far found)

-- and are refused nowhere else
pub once_refused : (bytes : List ℕ) (at : ℕ) (tokens : List Token) (r : Refusal) → IsSoFar bytes at tokens → Refused r ≡ piece (rest_of bytes at) → (s : Refusal) (place : ℕ) → Stops bytes s place → (r ≡ s) × (at ≡ place)
once_refused bytes at tokens r so_far found s place stops =
    let both = Stops-one bytes s r place at stops (Stops-from bytes at tokens r so_far found) in
    (sym both.0, sym both.1)
