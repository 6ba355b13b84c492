-- Names as contracts see them.
use Rattle.std.specs.Prelude.{◌≡◌, ℕ, ◌+◌, ◌≤◌, List, map, None, option_map}
use Rattle.std.specs.HashMap.{get_by}
use Rattle.std.specs.Str.{bytes_eq}
use Rattle.spec_calculus.specs.Bounds.{most_names}
use Rattle.spec_protocol_scope.specs.Names as own
use Rattle.pi_parser.specs.Processes.{process_of}
use Rattle.scope_declarations.specs.declared.names.Macro.{Macro}
use Rattle.scope_declarations.specs.declared.names.Names.{Names}
use Rattle.scope_declarations.specs.declared.names.Meaning.{Meaning}
use Rattle.scope_declarations.specs.declared.names.Meaning.TheVariants as m

-- a macro
abbrev pub macro_of : Macro → own.Macro
macro_of m = record { name = m.name; body = process_of m.body.now }

-- the names that are declared
abbrev pub names_of : Names → own.Names
names_of n = record {
  frees = n.frees;
  constructors = n.ctors;
  destructors = n.dtors;
  events = n.events;
  tables = n.tables;
  macros = map macro_of n.macros.items;
}

-- what a declared name is
abbrev pub meaning_of : Meaning → own.Meaning
meaning_of (m.Free number) = own.MeansFree number
meaning_of (m.Constructor number arity is_data) = own.MeansConstructor number arity is_data
meaning_of (m.Destructor number arity) = own.MeansDestructor number arity
meaning_of (m.Event number arity) = own.MeansEvent number arity
meaning_of (m.Table number arity) = own.MeansTable number arity
meaning_of m.Macro = own.MeansMacro

-- the table tells what each word is declared as
abbrev pub FindsMeanings : own.Texts → Names → Type 0
FindsMeanings text n =
    (word : List ℕ) → option_map meaning_of (get_by (λ k. bytes_eq word k.items) n.meanings) ≡ own.meaning_of text (names_of n) word

-- the names are within their limit, and the table finds them
pub record IsKept (text : own.Texts) (n : Names) : Type 0 where
  pub few : own.count_of (names_of n) ≤ most_names
  pub finds : FindsMeanings text n

-- where they were kept and this word was not declared, they are kept with one name more
abbrev pub StaysKept : Names → List ℕ → Names → Type 0
StaysKept old word new = (text : own.Texts) → IsKept text old → own.meaning_of text (names_of old) word ≡ None → IsKept text new

-- nothing else is declared as the token's identifier, which is this word, and there is room for one name more
pub record IsNew (s : own.Scope) (n : ℕ) (word : List ℕ) : Type 0 where
  pub fresh : own.look s n ≡ None
  pub few : own.count_of s.names + 1 ≤ most_names
  pub spelled : word ≡ s.text n
