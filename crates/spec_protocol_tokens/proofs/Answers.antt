-- Bytes have one answer: their tokens, or one refusal at one place.
use Rattle.std.proofs.Common.{◌≡◌, ℕ, zero, suc, ◌+◌, ◌-◌, ◌<◌, ◌≤◌, List, [], ◌++◌, length, drop, refl, ap, sym, ◌∙◌, subst, arith, inl, inr, length-drop}
use Rattle.std.proofs.Math.Seq.{drop-length}
use Rattle.std.proofs.lemmas.Bool.{cases_lt}
use Rattle.spec_protocol_tokens.specs.Token.{Token}
use Rattle.spec_protocol_tokens.specs.Piece.{Piece, Refusal, Nothing, Blank, Comment, Lexeme, Refused, piece, size_of}
use Rattle.spec_protocol_tokens.specs.Lexed.{token_of, tokens_of, LexedTo, Lexed, Stops}
use Rattle.spec_protocol_tokens.specs.Laws.{HasAnswer, Ascend, AllStand, FitsIn}
use Rattle.spec_protocol_tokens.proofs.Sizes.{piece_fits_in}
use Rattle.spec_protocol_tokens.proofs.Covers.{Covers-one, LexedTo-push, Ascend-tokens_of, AllStand-tokens_of}

-- behind the last byte stands nothing
pub piece-end : (bytes : List ℕ) → piece (drop (length bytes) bytes) ≡ Nothing
piece-end bytes = ap piece (drop-length bytes)

-- of two rows of tokens that each go as far as they can, both are one
pub LexedTo-one : (bytes : List ℕ) (e f : ℕ) (ts us : List Token) → LexedTo bytes e ts → LexedTo bytes f us → size_of (piece (drop e bytes)) ≡ 0 → size_of (piece (drop f bytes)) ≡ 0 → (ts ≡ us) × (e ≡ f)
LexedTo-one bytes e f ts us a b stop_e stop_f =
    let both = Covers-one bytes 0 a.pieces b.pieces e f a.cover b.cover stop_e stop_f in
    (sym a.among ∙ (ap (tokens_of 0) both.0 ∙ b.among), both.1)

-- bytes have at most one list of tokens
pub Lexed-one : (bytes : List ℕ) (ts us : List Token) → Lexed bytes ts → Lexed bytes us → ts ≡ us
Lexed-one bytes ts us a b =
    let stop = ap size_of (piece-end bytes) in
    (LexedTo-one bytes (length bytes) (length bytes) ts us a b stop stop).0

-- bytes are refused at most once
pub Stops-one : (bytes : List ℕ) (r s : Refusal) (i j : ℕ) → Stops bytes r i → Stops bytes s j → (r ≡ s) × (i ≡ j)
Stops-one bytes r s i j a b =
    let both = LexedTo-one bytes i j a.tokens b.tokens a.before b.before (ap size_of a.refused) (ap size_of b.refused) in
    let same : Refused r ≡ Refused s = sym a.refused ∙ (ap (λ n. piece (drop n bytes)) both.1 ∙ b.refused) in
    (cc same, both.1)

-- bytes that have tokens are not refused
pub Lexed-not_Stops : (bytes : List ℕ) (ts : List Token) (r : Refusal) (i : ℕ) → Lexed bytes ts → Stops bytes r i → ⊥
Lexed-not_Stops bytes ts r i a b =
    let both = LexedTo-one bytes (length bytes) i ts b.tokens a b.before (ap size_of (piece-end bytes)) (ap size_of b.refused) in
    let wrong : Nothing ≡ Refused r = sym (piece-end bytes) ∙ (ap (λ n. piece (drop n bytes)) both.1 ∙ b.refused) in
    cc wrong

-- an answer, by the piece that stands behind the tokens so far
answer_by : (bytes : List ℕ) (at : ℕ) (ts : List Token) (p : Piece) → LexedTo bytes at ts → piece (drop at bytes) ≡ p → FitsIn (length bytes - at) p → ((next : ℕ) (us : List Token) → at < next → LexedTo bytes next us → next ≤ length bytes → HasAnswer bytes) → at < length bytes → HasAnswer bytes
answer_by bytes at ts Nothing so_far here fits onward within = absurd fits
answer_by bytes at ts Blank so_far here fits onward within =
    onward (at + 1) (ts ++ []) (omega arith) (LexedTo-push bytes at ts Blank so_far here (omega arith)) (omega arith)
answer_by bytes at ts (Comment size) so_far here (some, all) onward within =
    onward (at + size) (ts ++ []) (omega arith) (LexedTo-push bytes at ts (Comment size) so_far here some) (omega (arith, all, within))
answer_by bytes at ts (Lexeme kind size) so_far here (some, all) onward within =
    onward (at + size) (ts ++ token_of at (Lexeme kind size)) (omega arith) (LexedTo-push bytes at ts (Lexeme kind size) so_far here some) (omega (arith, all, within))
answer_by bytes at ts (Refused refusal) so_far here fits onward within =
    inr (refusal, (at, record { refused = here; tokens = ts; before = so_far }))

-- what stands at a place within the bytes takes some of the bytes from there on
pub piece_at_fits : (bytes : List ℕ) (at : ℕ) → at < length bytes → FitsIn (length bytes - at) (piece (drop at bytes))
piece_at_fits bytes at within =
    subst (λ n. FitsIn n (piece (drop at bytes))) (length-drop at bytes) (piece_fits_in (drop at bytes) (omega (arith, length-drop at bytes, within)))

-- an answer, with so many bytes at most to read
answer_from : (most : ℕ) (bytes : List ℕ) (at : ℕ) (ts : List Token) → LexedTo bytes at ts → at ≤ length bytes → length bytes - at ≤ most → HasAnswer bytes
answer_from zero bytes at ts so_far within few =
    let e : at ≡ length bytes = omega arith in
    inl (ts, subst (λ n. LexedTo bytes n ts) e so_far)
answer_from (suc most) bytes at ts so_far within few =
    elim (cases_lt at (length bytes)) [
      | inl before ↦ answer_by bytes at ts (piece (drop at bytes)) so_far refl (piece_at_fits bytes at before)
          (λ next us on lexed within'. answer_from most bytes next us lexed within' (omega (arith, on, few))) before
      | inr behind ↦ (let e : at ≡ length bytes = omega arith in inl (ts, subst (λ n. LexedTo bytes n ts) e so_far))
    ]

-- bytes have tokens or are refused
pub has_answer : (bytes : List ℕ) → HasAnswer bytes
has_answer bytes =
    answer_from (length bytes) bytes 0 [] (record { pieces = []; cover = refl; among = refl }) (omega arith) (omega arith)

-- tokens stand within the bytes, in the order of their places
pub Lexed-Ascend : (bytes : List ℕ) (ts : List Token) → Lexed bytes ts → Ascend 0 ts (length bytes)
Lexed-Ascend bytes ts a =
    subst (λ us. Ascend 0 us (length bytes)) a.among (Ascend-tokens_of bytes 0 a.pieces (length bytes) a.cover)

-- and each is what stands there
pub Lexed-AllStand : (bytes : List ℕ) (ts : List Token) → Lexed bytes ts → AllStand bytes ts
Lexed-AllStand bytes ts a = subst (AllStand bytes) a.among (AllStand-tokens_of bytes 0 a.pieces (length bytes) a.cover)
