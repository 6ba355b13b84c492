-- The faults that stand where a term begins, by what its bytes show.
use Rattle.std.specs.Prelude.{◌≡◌, ◌≢◌, ℕ, ◌+◌, ◌<◌, ◌≤◌, ◌⊎◌, ◌==◌, ◌||◌, Bool, true, false, List, ◌∷◌, ◌++◌, length}
use Rattle.std.specs.Char.{is_ascii_digit}
use Rattle.std.specs.Fmt.{decimal}
use Rattle.std.specs.List.{AllByRecursion}
use Rattle.spec_trees.specs.Tree.{node, depth}
use Rattle.spec_calculus.specs.Bounds.{most_arguments, most_term_levels}
use Rattle.spec_calculus.specs.Syntax.{Protocol}
use Rattle.spec_protocol_tokens.specs.Bytes.{begins_word, is_in_word}
use Rattle.spec_protocol_scope.specs.Names.{is_variable}
use Rattle.spec_terms.specs.Term.{Sym, Ctor, Data, Tuple, Free, Attacker, Term}
use Rattle.spec_certificate_text.specs.OfProtocol.{IsShort, IsRestriction, IsSymbolOf, IsTermBelow, most_variables}
use Rattle.spec_certificate_text.specs.Words.{symbol_word, word_at}
use Rattle.spec_certificate_text.specs.Written.{written}
use Rattle.spec_certificate_text.specs.Text.{term_text}
use Rattle.spec_certificate_text.specs.Spelled.{IsWord, AreDigits, goes_on}
use Rattle.spec_certificate_text.specs.Terms.{Code, Syntax, Number, Symbol, Arity, Count, NodeOrder, NodeLarge}
use Rattle.spec_certificate_faults.specs.Grammar.{EndsAt, EndsBefore, MayBegin}

-- Number: digits, one at least, that are not decimal without leading zero, of at most 9 digits.

pub record AreNoNumber (digits : List ℕ) : Type 0 where
  pub all : AreDigits digits
  pub some : 1 ≤ length digits
  pub none : (n : ℕ) → IsShort n → digits ≢ decimal n

-- those of a variable, which is `v` and digits alone
pub record IsNoVariable (here there : List ℕ) : Type 0 where
  pub digits : List ℕ
  pub behind : List ℕ
  pub text : here ≡ 118 ∷ there
  pub stand : there ≡ digits ++ behind
  pub wrong : AreNoNumber digits
  pub ends : EndsAt goes_on behind

-- those of a bound variable
pub record IsNoBound (here there : List ℕ) : Type 0 where
  pub digits : List ℕ
  pub behind : List ℕ
  pub text : here ≡ 63 ∷ there
  pub stand : there ≡ digits ++ behind
  pub wrong : AreNoNumber digits
  pub ends : EndsAt is_ascii_digit behind

-- those behind a word and `@`
pub record IsNoPoint (here there : List ℕ) : Type 0 where
  pub word : List ℕ
  pub digits : List ℕ
  pub behind : List ℕ
  pub text : here ≡ word ++ (64 ∷ there)
  pub stand : there ≡ digits ++ behind
  pub is_word : IsWord word
  pub wrong : AreNoNumber digits
  pub ends : EndsAt is_ascii_digit behind

-- Symbol: a word that names nothing that may stand there.

-- constructors and free names, which have a word and no other part
abbrev pub IsPlain : Sym → Type 0
IsPlain (Ctor f) = Unit {0}
IsPlain (Data f) = Unit {0}
IsPlain (Free name) = Unit {0}
IsPlain other = ⊥

-- before `(` or alone: no constructor and no free name. Alone, `v` and digits are a variable
pub record NamesNothing (P : Protocol) (here : List ℕ) : Type 0 where
  pub word : List ℕ
  pub next : ℕ
  pub behind : List ℕ
  pub text : here ≡ word ++ next ∷ behind
  pub is_word : IsWord word
  pub ends : is_in_word next ≡ false
  pub no_point : (next == 64) ≡ false
  pub no_variable : is_variable word ≡ true → next ≡ 40
  pub none : (f : Sym) (n : ℕ) → IsPlain f → IsSymbolOf P f n → symbol_word P f ≢ word

-- before `@` and a number: no restriction of that word at that point
pub record NamesNoRestriction (P : Protocol) (here : List ℕ) : Type 0 where
  pub word : List ℕ
  pub point : ℕ
  pub behind : List ℕ
  pub text : here ≡ word ++ (64 ∷ (decimal point ++ behind))
  pub is_word : IsWord word
  pub short : IsShort point
  pub ends : EndsAt is_ascii_digit behind
  pub none : (n : ℕ) → IsRestriction P point n → word_at P point ≢ word

-- a bound variable begins outside of constraints
pub record IsUnbound (binds : Bool) (here : List ℕ) : Type 0 where
  pub outside : binds ≡ false
  pub behind : List ℕ
  pub text : here ≡ 63 ∷ behind

-- Arity: a symbol over terms of the protocol, none too deep, of which it takes another number.

abbrev pub TakesOthers : Protocol → Sym → ℕ → Type 0
TakesOthers P (Tuple parts) n = most_arguments < n
TakesOthers P Attacker n = ⊥
TakesOthers P symbol n = (arity : ℕ) × IsSymbolOf P symbol arity × (arity ≢ n)

-- so many levels stand above
abbrev pub MayStandBelow : Bool → Protocol → ℕ → Term → Type 0
MayStandBelow binds P above t = IsTermBelow (most_variables binds) P t × (above + depth t ≤ most_term_levels)

pub record IsMisapplied (binds : Bool) (P : Protocol) (level : ℕ) (here : List ℕ) : Type 0 where
  pub symbol : Sym
  pub arguments : List Term
  pub behind : List ℕ
  pub text : here ≡ term_text P (node symbol arguments) behind
  pub ends : EndsBefore (written P (node symbol arguments)) behind
  pub each : AllByRecursion (MayStandBelow binds P level) arguments
  pub wrong : TakesOthers P symbol (length arguments)

-- Count: a term begins that is too deep.

-- a term may begin with the byte: with a letter or `_`, with `(`, with `@` or with `?`
abbrev pub begins_term : ℕ → Bool
begins_term b = begins_word b || (b == 40) || (b == 64) || (b == 63)

pub record IsTooDeep (level : ℕ) (here : List ℕ) : Type 0 where
  pub first : ℕ
  pub later : List ℕ
  pub text : here ≡ first ∷ later
  pub begins : begins_term first ≡ true
  pub deep : most_term_levels < level

-- the fault of this code stands at the one place, where a term of the level begins at the other, in a constraint or in a fact
abbrev pub TermFault : Bool → Protocol → ℕ → List ℕ → Code → List ℕ → Type 0
TermFault binds P level here Syntax there = ⊥
TermFault binds P level here Number there = IsNoVariable here there ⊎ IsNoBound here there ⊎ IsNoPoint here there
TermFault binds P level here Symbol there = (there ≡ here) × (NamesNothing P here ⊎ IsUnbound binds here ⊎ NamesNoRestriction P here)
TermFault binds P level here Arity there = (there ≡ here) × IsMisapplied binds P level here
TermFault binds P level here Count there = (there ≡ here) × IsTooDeep level here
TermFault binds P level here NodeOrder there = ⊥
TermFault binds P level here NodeLarge there = ⊥

-- it stands in the bytes, which a term begins
pub record StandsInTerm (binds : Bool) (P : Protocol) (code : Code) (bytes there : List ℕ) : Type 0 where
  pub level : ℕ
  pub here : List ℕ
  pub may : MayBegin bytes level here
  pub fault : TermFault binds P level here code there
