-- The parts of a text that stand round the arguments of a symbol or an event.
use Rattle.std.specs.Prelude.{ℕ, zero, suc, Bool, true, false, List, [], ◌∷◌, ◌++◌}
use Rattle.std.specs.Fmt.{decimal}
use Rattle.spec_calculus.specs.Syntax.{Protocol}
use Rattle.spec_terms.specs.Term.{Sym, Ctor, Data, Tuple, Free, Point, Attacker, Term}
use Rattle.spec_certificate_text.specs.Words.{word_at, symbol_word}

-- whether there are no arguments
abbrev pub is_alone : List Term → Bool
is_alone [] = true
is_alone (t ∷ ts) = false

-- a word, and `(` behind it unless it stands alone
abbrev pub word_opening : List ℕ → Bool → List ℕ → List ℕ
word_opening word true rest = word ++ rest
word_opening word false rest = word ++ (40 ∷ rest)

-- `)`, unless the word before stands alone
abbrev pub word_closing : Bool → List ℕ → List ℕ
word_closing true rest = rest
word_closing false rest = 41 ∷ rest

-- what stands before the arguments of the name of the restriction at the point
abbrev pub made_opening : Protocol → ℕ → List ℕ → List ℕ
made_opening P point rest = word_at P point ++ (64 ∷ (decimal point ++ (91 ∷ rest)))

-- what stands before the arguments of a symbol, and what stands behind them
abbrev pub symbol_opening : Protocol → Sym → Bool → List ℕ → List ℕ
symbol_opening P (Ctor f) alone rest = word_opening (symbol_word P (Ctor f)) alone rest
symbol_opening P (Data f) alone rest = word_opening (symbol_word P (Data f)) alone rest
symbol_opening P (Tuple parts) alone rest = 40 ∷ rest
symbol_opening P (Free name) alone rest = word_opening (symbol_word P (Free name)) alone rest
symbol_opening P (Point point) alone rest = made_opening P point rest
symbol_opening P Attacker alone rest = 64 ∷ 91 ∷ rest

abbrev pub symbol_closing : Sym → Bool → List ℕ → List ℕ
symbol_closing (Ctor f) alone rest = word_closing alone rest
symbol_closing (Data f) alone rest = word_closing alone rest
symbol_closing (Tuple parts) alone rest = 41 ∷ rest
symbol_closing (Free name) alone rest = word_closing alone rest
symbol_closing (Point point) alone rest = 93 ∷ rest
symbol_closing Attacker alone rest = 93 ∷ rest

-- what stands before the item of that place, from 0: before a later argument a comma, before a later hypothesis a comma and a space
abbrev pub comma_at : ℕ → List ℕ → List ℕ
comma_at zero rest = rest
comma_at (suc n) rest = 44 ∷ rest

abbrev pub gap_at : ℕ → List ℕ → List ℕ
gap_at zero rest = rest
gap_at (suc n) rest = 44 ∷ 32 ∷ rest
