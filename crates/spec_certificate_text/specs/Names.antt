-- What words name in a protocol.
use Rattle.std.specs.Prelude.{ℕ, ◌+◌, Bool, true, false, if◌then◌else◌, List, [], ◌∷◌, Option, Some, None, option_map, option_and_then}
use Rattle.std.specs.Option.{option_or}
use Rattle.std.specs.Str.{bytes_eq}
use Rattle.spec_calculus.specs.Syntax.{Declared, Process, New, Protocol}
use Rattle.spec_calculus.specs.Points.{numbered, nodes, name_arguments}
use Rattle.spec_terms.specs.Term.{Sym, Ctor, Data, Free, Point}

-- a declaration and its number
pub record Found : Type 0 where
  pub number : ℕ
  pub declared : Declared

-- the first declaration with this word, of those that are numbered from n on
abbrev pub find_from : ℕ → List Declared → List ℕ → Option Found
find_from n [] word = None
find_from n (d ∷ ds) word = if bytes_eq d.word word then Some record { number = n; declared = d } else find_from (n + 1) ds word

-- a symbol, and how many arguments it takes
pub record Named : Type 0 where
  pub symbol : Sym
  pub arity : ℕ

abbrev pub free_named : Found → Named
free_named f = record { symbol = Free f.number; arity = 0 }

abbrev pub constructor_symbol : Bool → ℕ → Sym
constructor_symbol true f = Data f
constructor_symbol false f = Ctor f

abbrev pub constructor_named : Found → Named
constructor_named f = record { symbol = constructor_symbol f.declared.is_data f.number; arity = f.declared.arity }

-- the free name or constructor of the word
abbrev pub symbol_called : Protocol → List ℕ → Option Named
symbol_called P word = option_or (option_map free_named (find_from 1 P.frees word)) (option_map constructor_named (find_from 1 P.constructors word))

-- whether the process is a restriction with this word
abbrev pub is_restriction_of : List ℕ → Process → Bool
is_restriction_of word (New w next) = bytes_eq w word
is_restriction_of word other = false

abbrev pub if_restriction : List ℕ → ℕ → Process → Option ℕ → Option Named
if_restriction word point node arguments = if is_restriction_of word node then option_map (λ n. record { symbol = Point point; arity = n }) arguments else None

-- the name of the restriction with this word at the point
abbrev pub name_called : Protocol → List ℕ → ℕ → Option Named
name_called P word point = option_and_then (λ node. if_restriction word point node (numbered (name_arguments 0 P.main) point)) (numbered (nodes P.main) point)

-- an event or a table, and how many arguments it takes
pub record CalledEvent : Type 0 where
  pub number : ℕ
  pub arity : ℕ

-- what the word names among these declarations
abbrev pub called_in : List Declared → List ℕ → Option CalledEvent
called_in declarations word = option_map (λ f. record { number = f.number; arity = f.declared.arity }) (find_from 1 declarations word)

-- the event of the word
abbrev pub event_called : Protocol → List ℕ → Option CalledEvent
event_called P word = called_in P.events word

-- the protocol with its tables in the place of its events: an entry of a table is spelled as an event of this protocol is
abbrev pub with_tables : Protocol → Protocol
with_tables P = record P { events = P.tables; tables = [] }

-- the table of the word
abbrev pub table_called : Protocol → List ℕ → Option CalledEvent
table_called P word = called_in P.tables word
