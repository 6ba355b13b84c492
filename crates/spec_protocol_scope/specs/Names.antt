-- Names: those that a file declares, and those that are bound where a term or process stands.
use Rattle.std.specs.Prelude.{ℕ, ◌+◌, ◌-◌, ◌*◌, Bool, false, ◌==◌, ◌&&◌, if◌then◌else◌, List, [], ◌∷◌, length, fold, Option, Some, None, option_map}
use Rattle.std.specs.Option.{option_or}
use Rattle.std.specs.List.{list_all}
use Rattle.std.specs.Char.{is_ascii_digit}
use Rattle.std.specs.Str.{bytes_eq}
use Rattle.spec_calculus.specs.Syntax.{Name, Rule, Declared, Destructor}
use Rattle.spec_well_formed.specs.Signature.{Signature}
use Rattle.spec_protocol_grammar.specs.Sketch.{ProcessSketch}

-- the text of each token
abbrev pub Texts : Type 0
Texts = ℕ → List ℕ

-- a macro: the token that names it, and its body
pub record Macro : Type 0 where
  pub name : ℕ
  pub body : ProcessSketch

-- what a file has declared so far, in order; all of it shares one space of names
pub record Names : Type 0 where
  pub frees : List Declared
  pub constructors : List Declared
  pub destructors : List Destructor
  pub events : List Declared
  pub tables : List Declared
  pub macros : List Macro

-- what these names are apart from macros
abbrev pub signature_with : Names → Signature
signature_with names =
    record { frees = names.frees; constructors = names.constructors; destructors = names.destructors; events = names.events; tables = names.tables }

abbrev pub no_names : Names
no_names = record { frees = []; constructors = []; destructors = []; events = []; tables = []; macros = [] }

-- how many names are declared
abbrev pub count_of : Names → ℕ
count_of names =
    length names.frees + length names.constructors + length names.destructors + length names.events + length names.tables
    + length names.macros

-- what a declared name is, with its number among those of its kind, from 1
pub data Meaning : Type 0 where
  MeansFree : (number : ℕ) → Meaning
  MeansConstructor : (number arity : ℕ) → (is_data : Bool) → Meaning
  MeansDestructor : (number arity : ℕ) → Meaning
  MeansEvent : (number arity : ℕ) → Meaning
  MeansTable : (number arity : ℕ) → Meaning
  MeansMacro : Meaning

-- the first item that is spelled so, with its number, where the first item has this one
abbrev pub find_from : {X : Type 0} → (X → List ℕ) → ℕ → List X → List ℕ → Option (ℕ × X)
find_from word_of number [] word = None
find_from word_of number (x ∷ xs) word =
    if bytes_eq (word_of x) word then Some (number, x) else find_from word_of (number + 1) xs word

abbrev pub find_declared : List Declared → List ℕ → Option (ℕ × Declared)
find_declared items word = find_from (λ d. d.word) 1 items word

-- how many arguments the rules of a destructor take
abbrev pub arity_of : List Rule → ℕ
arity_of [] = 0
arity_of (rule ∷ rules) = length rule.left

-- what the word is declared as, other than a macro
abbrev pub declared_meaning : Names → List ℕ → Option Meaning
declared_meaning names word =
    option_or (option_map (λ f. MeansFree f.0) (find_declared names.frees word))
    (option_or (option_map (λ f. MeansConstructor f.0 f.1.arity f.1.is_data) (find_declared names.constructors word))
    (option_or (option_map (λ f. MeansDestructor f.0 (arity_of f.1.rules)) (find_from (λ d. d.word) 1 names.destructors word))
    (option_or (option_map (λ f. MeansEvent f.0 f.1.arity) (find_declared names.events word))
    (option_map (λ f. MeansTable f.0 f.1.arity) (find_declared names.tables word)))))

-- what the word is declared as
abbrev pub meaning_of : Texts → Names → List ℕ → Option Meaning
meaning_of text names word =
    option_or (declared_meaning names word) (option_map (λ f. MeansMacro) (find_from (λ m. text m.name) 1 names.macros word))

-- a variable's name: `v`, and then one digit or more
abbrev pub is_variable : List ℕ → Bool
is_variable [] = false
is_variable (b ∷ []) = false
is_variable (b ∷ digit ∷ digits) = (b == 118) && list_all is_ascii_digit (digit ∷ digits)

-- the number that these digits spell
abbrev pub decimal : List ℕ → ℕ
decimal digits = fold (λ number digit. 10 * number + (digit - 48)) 0 digits

-- what the rules read names by: the text of each token, and the names that are declared
pub record Scope : Type 0 where
  pub text : Texts
  pub names : Names

-- what the token's identifier is declared as
abbrev pub look : Scope → ℕ → Option Meaning
look s n = meaning_of s.text s.names (s.text n)

-- whether two tokens have the same text
abbrev pub same_text : Texts → ℕ → ℕ → Bool
same_text text m n = bytes_eq (text m) (text n)

-- an identifier that is bound, by its token, and the leaf that it stands for
pub record Bound : Type 0 where
  pub token : ℕ
  pub name : Name

-- what the identifier is bound to, the innermost first
abbrev pub bound_as : Texts → List Bound → ℕ → Option Name
bound_as text [] n = None
bound_as text (b ∷ outer) n = if same_text text b.token n then Some b.name else bound_as text outer n

-- the number of the variable that is spelled so, from 1; these tokens are where the variables stand first
abbrev pub variable_of : Texts → List ℕ → ℕ → Option ℕ
variable_of text variables n = option_map (λ found. found.0) (find_from text 1 variables (text n))
