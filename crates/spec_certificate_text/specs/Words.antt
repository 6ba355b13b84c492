-- The words that a protocol has for symbols, events and tables.
use Rattle.std.specs.Prelude.{ℕ, List, [], option_map, unwrap_or}
use Rattle.spec_calculus.specs.Syntax.{Declared, Process, New, Protocol}
use Rattle.spec_calculus.specs.Points.{numbered, nodes}
use Rattle.spec_terms.specs.Term.{Sym, Ctor, Data, Tuple, Free, Point, Attacker}

-- the word of the declaration of that number; none where there is no such
abbrev pub declared_word : List Declared → ℕ → List ℕ
declared_word declarations number = unwrap_or (option_map (λ d. d.word) (numbered declarations number)) []

-- the word of a restriction; none of another process
abbrev pub word_of_process : Process → List ℕ
word_of_process (New word next) = word
word_of_process other = []

-- the word of the restriction at the point; none where there is no such
abbrev pub word_at : Protocol → ℕ → List ℕ
word_at P point = unwrap_or (option_map word_of_process (numbered (nodes P.main) point)) []

-- the word of a symbol; a tuple and the attacker's names have none
abbrev pub symbol_word : Protocol → Sym → List ℕ
symbol_word P (Ctor f) = declared_word P.constructors f
symbol_word P (Data f) = declared_word P.constructors f
symbol_word P (Tuple parts) = []
symbol_word P (Free name) = declared_word P.frees name
symbol_word P (Point point) = word_at P point
symbol_word P Attacker = []

abbrev pub event_word : Protocol → ℕ → List ℕ
event_word P event = declared_word P.events event

abbrev pub table_word : Protocol → ℕ → List ℕ
table_word P table = declared_word P.tables table
