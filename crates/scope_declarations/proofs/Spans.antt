-- The tokens of some bytes stand within them.
use Rattle.std.proofs.Common.{◌≡◌, ℕ, zero, suc, ◌<◌, ◌≤◌, List, [], ◌∷◌, length, map, get_or, refl, sym, ap, subst, arith}
use Rattle.spec_protocol_tokens.specs.Token as own
use Rattle.spec_protocol_tokens.specs.Laws.{Ascend}
use Rattle.pi_lexer.specs.declared.token.Token.{Token}
use Rattle.pi_lexer.specs.Token.{token_of}
use Rattle.spec_protocol_scope.specs.Spells.{texts}

-- a token stands within the bytes
pub record IsWithin (bytes : List ℕ) (t : Token) : Type 0 where
  pub order : t.from ≤ t.to
  pub inside : t.to ≤ length bytes

ascend_later : (ts : List own.Token) (start end : ℕ) → Ascend start ts end → start ≤ end
ascend_later [] start end h = h
ascend_later (t ∷ ts) start end h = omega (arith, h.0, h.1, ascend_later ts t.to end h.2)

ascend_within : (bytes : List ℕ) (ts : List Token) (start i : ℕ) (d : Token) → Ascend start (map token_of ts) (length bytes) → i < length ts → IsWithin bytes (get_or ts i d)
ascend_within bytes [] start i d h b = absurd (omega arith)
ascend_within bytes (t ∷ ts) start zero d h b = record { order = omega (arith, h.1); inside = ascend_later (map token_of ts) t.to (length bytes) h.2 }
ascend_within bytes (t ∷ ts) start (suc i) d h b = ascend_within bytes ts t.to i d h.2 (omega arith)

-- one that was read there stands within the bytes
pub token_within : (bytes : List ℕ) (tokens : List own.Token) (ts : List Token) → map token_of ts ≡ tokens → Ascend 0 tokens (length bytes) → (i : ℕ) (t : Token) → i < length ts → t ≡ get_or ts i t → IsWithin bytes t
token_within bytes tokens ts e ascend i t b is =
    subst (IsWithin bytes) (sym is) (ascend_within bytes ts 0 i t (subst (λ (us : List own.Token). Ascend 0 us (length bytes)) (sym e) ascend) b)

text_there : (bytes : List ℕ) (ts : List Token) (i : ℕ) (t : Token) → i < length ts → t ≡ get_or ts i t → texts bytes (map token_of ts) i ≡ own.text bytes (token_of t)
text_there bytes [] i t b is = absurd (omega arith)
text_there bytes (u ∷ ts) zero t b is = ap (λ (v : Token). own.text bytes (token_of v)) (sym is)
text_there bytes (u ∷ ts) (suc i) t b is = text_there bytes ts i t (omega arith) is

text_past : (bytes : List ℕ) (ts : List Token) (i : ℕ) → length ts ≤ i → texts bytes (map token_of ts) i ≡ []
text_past bytes [] i b = refl
text_past bytes (u ∷ ts) zero b = absurd (omega arith)
text_past bytes (u ∷ ts) (suc i) b = text_past bytes ts i (omega arith)

-- the text of a token that is there, and of one that is not
pub texts_there : (bytes : List ℕ) (tokens : List own.Token) (ts : List Token) → map token_of ts ≡ tokens → (i : ℕ) (t : Token) → i < length ts → t ≡ get_or ts i t → texts bytes tokens i ≡ own.text bytes (token_of t)
texts_there bytes tokens ts e i t b is = subst (λ (us : List own.Token). texts bytes us i ≡ own.text bytes (token_of t)) e (text_there bytes ts i t b is)

pub texts_past : (bytes : List ℕ) (tokens : List own.Token) (ts : List Token) → map token_of ts ≡ tokens → (i : ℕ) → length ts ≤ i → texts bytes tokens i ≡ []
texts_past bytes tokens ts e i b = subst (λ (us : List own.Token). texts bytes us i ≡ []) e (text_past bytes ts i b)
