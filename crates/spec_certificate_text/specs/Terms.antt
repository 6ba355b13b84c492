-- How far a term was read.
use Rattle.std.specs.Prelude.{ℕ, List, [], ◌∷◌, ◌++◌}
use Rattle.std.specs.Fmt.{decimal}
use Rattle.spec_calculus.specs.Syntax.{Protocol}
use Rattle.spec_terms.specs.Term.{Sym, Ctor, Data, Tuple, Free, Point, Attacker, Term}
use Rattle.spec_certificate_text.specs.Words.{symbol_word}
use Rattle.spec_certificate_text.specs.Text.{term_text}

-- why a text is refused
pub data Code : Type 0 where
  Syntax : Code  -- the text can't go on with this byte
  Number : Code  -- no decimal number within the limit of digits without leading zero
  Symbol : Code  -- a word that names nothing that may stand there
  Arity : Code  -- a wrong number of arguments
  Count : Code  -- too deep, one too many, or out of order
  NodeOrder : Code  -- a node or a number of one is out of order
  NodeLarge : Code  -- a node, or what is over nodes, has too many symbols

-- a symbol whose arguments are being read: where it stands, how many it takes, and those that were read
pub record Open : Type 0 where
  pub symbol : Sym
  pub arity : ℕ
  pub place : ℕ
  pub arguments : List Term

-- what was read of the innermost term
pub data Mode : Type 0 where
  Begins : Mode  -- nothing yet
  InWord : (word : List ℕ) → Mode
  InDigits : (word digits : List ℕ) → Mode  -- a word, `@` and digits
  AtBracket : Mode  -- the `@` of an attacker's name
  InBound : (digits : List ℕ) → Mode  -- the `?` of a bound variable, and digits
  Ended : (term : Term) → Mode  -- all of it

-- the symbols whose arguments are being read, the innermost first; the innermost term; and where its word began
pub record Reading : Type 0 where
  pub heads : List Open
  pub mode : Mode
  pub from : ℕ

-- what a byte does: reading goes on behind it; a term ended before it; or the text is refused
pub data Step : Type 0 where
  Goes : (reading : Reading) → Step
  Ends : (term : Term) → Step
  Fault : (place : ℕ) → (code : Code) → Step

-- The text that was read, and then the rest.

abbrev pub head_text : Protocol → Sym → List ℕ → List ℕ
head_text P (Ctor f) rest = symbol_word P (Ctor f) ++ (40 ∷ rest)
head_text P (Data f) rest = symbol_word P (Data f) ++ (40 ∷ rest)
head_text P (Tuple n) rest = 40 ∷ rest
head_text P (Free a) rest = symbol_word P (Free a) ++ (40 ∷ rest)
head_text P (Point p) rest = symbol_word P (Point p) ++ (64 ∷ (decimal p ++ (91 ∷ rest)))
head_text P Attacker rest = 64 ∷ 91 ∷ rest

abbrev pub arguments_text : Protocol → List Term → List ℕ → List ℕ
arguments_text P [] rest = rest
arguments_text P (t ∷ ts) rest = term_text P t (44 ∷ arguments_text P ts rest)

abbrev pub heads_text : Protocol → List Open → List ℕ → List ℕ
heads_text P [] rest = rest
heads_text P (o ∷ os) rest = heads_text P os (head_text P o.symbol (arguments_text P o.arguments rest))

abbrev pub mode_text : Protocol → Mode → List ℕ → List ℕ
mode_text P Begins rest = rest
mode_text P (InWord word) rest = word ++ rest
mode_text P (InDigits word digits) rest = word ++ (64 ∷ (digits ++ rest))
mode_text P AtBracket rest = 64 ∷ rest
mode_text P (InBound digits) rest = 63 ∷ (digits ++ rest)
mode_text P (Ended t) rest = term_text P t rest

abbrev pub so_far : Protocol → Reading → List ℕ → List ℕ
so_far P r rest = heads_text P r.heads (mode_text P r.mode rest)
