-- The end of a file: no token has its class.
use Rattle.std.proofs.Common.{◌≡◌, ◌≢◌, ℕ, zero, suc, ◌<◌, Bool, true, false, cond, List, [], ◌∷◌, length, refl, arith}
use Rattle.std.specs.Prelude.{codes}
use Rattle.std.specs.Str.{bytes_eq}
use Rattle.spec_protocol_tokens.specs.Token.{Token, TokenKind, Identifier, Reserved, Number, Symbol, text}
use Rattle.spec_protocol_grammar.specs.declared.class.Class.{Class}
use Rattle.spec_protocol_grammar.specs.declared.class.Class.TheVariants as w
use Rattle.spec_protocol_grammar.specs.Classes.{class_among, reserved_table, symbol_table, reserved_class, symbol_class, number_class, class_by, class_of, source, same}
use Rattle.spec_protocol_grammar.proofs.Same.{true-same}

-- no class but this is the end
abbrev ends : Class → Bool
ends c = same c w.End

-- none of a table is the end
abbrev NotEnds : List (List ℕ × Class) → Type 0
NotEnds [] = Unit {0}
NotEnds ((spelling, class) ∷ others) = (ends class ≡ false) × NotEnds others

chosen : (b : Bool) (x y : Class) → ends x ≡ false → ends y ≡ false → ends (cond b x y) ≡ false
chosen true x y f g = f
chosen false x y f g = g

among_not : (table : List (List ℕ × Class)) (text : List ℕ) → NotEnds table → ends (class_among table text) ≡ false
among_not [] text h = refl
among_not ((spelling, class) ∷ others) text h = chosen (bytes_eq text spelling) class (class_among others text) h.0 (among_not others text h.1)

reserved_not : (word : List ℕ) → ends (reserved_class word) ≡ false
unfolding reserved_class
reserved_not word = among_not reserved_table word (refl, (refl, (refl, (refl, (refl, (refl, (refl, (refl, (refl, (refl, (refl, (refl, (refl, (refl, (refl, (refl, (refl, (refl, (refl, (refl, (refl, (refl, tt))))))))))))))))))))))

symbol_not : (symbol : List ℕ) → ends (symbol_class symbol) ≡ false
unfolding symbol_class
symbol_not symbol = among_not symbol_table symbol (refl, (refl, (refl, (refl, (refl, (refl, (refl, (refl, (refl, (refl, (refl, (refl, (refl, tt)))))))))))))

number_not : (number : List ℕ) → ends (number_class number) ≡ false
unfolding number_class
number_not number = chosen (bytes_eq number (codes "0")) w.Zero w.Number refl refl

class_not : (kind : TokenKind) (word : List ℕ) → ends (class_by kind word) ≡ false
class_not Identifier word = refl
class_not Reserved word = reserved_not word
class_not Number word = number_not word
class_not Symbol word = symbol_not word

-- before the end there are tokens
pub not_ended : (bytes : List ℕ) (tokens : List Token) (k : ℕ) → k < length tokens → (source bytes tokens k).class ≢ w.End
not_ended bytes [] k h = absurd (omega arith)
not_ended bytes (t ∷ ts) zero h = λ e. is_not (class_of bytes t) (class_not t.kind (text bytes t)) e where
  is_not : (c : Class) → ends c ≡ false → c ≢ w.End
  is_not c f e = absurd (contra (ends c) f (true-same c w.End e)) where
    contra : (b : Bool) → b ≡ false → b ≡ true → ⊥
    contra b f g = cc
not_ended bytes (t ∷ ts) (suc k) h = not_ended bytes ts k (omega arith)

-- and behind them it ends
pub ended : (bytes : List ℕ) (tokens : List Token) → (source bytes tokens (length tokens)).class ≡ w.End
ended bytes [] = refl
ended bytes (t ∷ ts) = ended bytes ts
