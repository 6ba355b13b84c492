-- Declarations other than queries, in order; of a macro only its name is looked at.
use Rattle.std.specs.Prelude.{ℕ, ◌+◌, Bool, true, false, nat_eq, nat_le, ◌&&◌, not, if◌then◌else◌, List, [], ◌∷◌, ◌++◌, length, is_some, Ok}
use Rattle.spec_trees.specs.Tree.{size, sizes, trees}
use Rattle.spec_calculus.specs.Bounds.{most_names, most_arguments, most_rules, most_written_symbols}
use Rattle.spec_calculus.specs.Syntax as calculus
use Rattle.spec_protocol_grammar.specs.Sketch.{ProcessSketch, RuleSketch, DeclarationSketch, Free, Fun, Data, Reduc, Event, Table, Query, Definition}
use Rattle.spec_protocol_scope.specs.Answers.{Answer, Twice, Arity, Kind, fault, within, ◌>>=◌}
use Rattle.spec_protocol_scope.specs.Names.{Texts, Names, Scope, Macro, count_of, look, same_text, is_variable, decimal}
use Rattle.spec_protocol_scope.specs.Terms.{OnLeft, OnRight, count, term, terms}

-- a new name: nothing else is declared so, and no more names are than the limit
abbrev pub new_name : Scope → ℕ → Answer (List ℕ)
new_name s n =
    if is_some (look s n) then fault Twice n
    else within (nat_le (count_of s.names + 1) most_names) n (s.text n)

-- a new free name or constructor: its name is not a variable's
abbrev pub new_symbol : Scope → ℕ → Answer (List ℕ)
new_symbol s n =
    if not (is_some (look s n)) && is_variable (s.text n) then fault Kind n else new_name s n

-- the arity that a number spells, which is within the limit of arguments
abbrev pub arity : Texts → ℕ → Answer ℕ
arity text n = within (nat_le (decimal (text n)) most_arguments) n (decimal (text n))

-- a free name
abbrev pub free_name : Scope → Bool → ℕ → Answer calculus.Declared
free_name s public n = do
  word ← new_symbol s n
  Ok (record { word = word; arity = 0; public = public; is_data = false })

-- a constructor
abbrev pub constructor : Scope → Bool → Bool → ℕ → ℕ → Answer calculus.Declared
constructor s public is_data n a = do
  word ← new_symbol s n
  size ← arity s.text a
  Ok (record { word = word; arity = size; public = public; is_data = is_data })

-- an event, or a table
abbrev pub event : Scope → ℕ → ℕ → Answer calculus.Declared
event s n a = do
  word ← new_name s n
  size ← arity s.text a
  Ok (record { word = word; arity = size; public = true; is_data = false })

-- a rule: within the limits of arguments, and of written symbols with the destructor's
abbrev pub rule : Scope → RuleSketch → Answer calculus.Rule
rule s r = do
  left ← terms s OnLeft [] r.arguments
  right ← term s OnRight left.1 r.result
  within (nat_le (count r.arguments) most_arguments && nat_le (1 + sizes (trees left.0) + size right.0) most_written_symbols) r.first (record { left = left.0; right = right.0 })

-- a further rule, which has the number of arguments and the name of the first
abbrev pub further_rule : Scope → RuleSketch → RuleSketch → Answer calculus.Rule
further_rule s first r =
    if not (nat_eq (count r.arguments) (count first.arguments)) then fault Arity r.first
    else (if same_text s.text first.first r.first then rule s r else fault Kind r.first)

abbrev pub further_rules : Scope → RuleSketch → List RuleSketch → Answer (List calculus.Rule)
further_rules s first [] = Ok []
further_rules s first (r ∷ rs) = do
  one ← further_rule s first r
  others ← further_rules s first rs
  Ok (one ∷ others)

-- a destructor, at the word `reduc`: its rules see the names that are declared before it, and are within the limit of rules
abbrev pub destructor : Scope → ℕ → RuleSketch → List RuleSketch → Answer calculus.Destructor
destructor s n first others = do
  word ← new_name s first.first
  one ← rule s first
  more ← further_rules s first others
  within (nat_le (1 + length others) most_rules) n (record { word = word; rules = one ∷ more })

-- the names with one more
abbrev pub with_free : Names → calculus.Declared → Names
with_free names d = record { frees = names.frees ++ d ∷ []; constructors = names.constructors; destructors = names.destructors; events = names.events; tables = names.tables; macros = names.macros }

abbrev pub with_constructor : Names → calculus.Declared → Names
with_constructor names d = record { frees = names.frees; constructors = names.constructors ++ d ∷ []; destructors = names.destructors; events = names.events; tables = names.tables; macros = names.macros }

abbrev pub with_destructor : Names → calculus.Destructor → Names
with_destructor names d = record { frees = names.frees; constructors = names.constructors; destructors = names.destructors ++ d ∷ []; events = names.events; tables = names.tables; macros = names.macros }

abbrev pub with_event : Names → calculus.Declared → Names
with_event names d = record { frees = names.frees; constructors = names.constructors; destructors = names.destructors; events = names.events ++ d ∷ []; tables = names.tables; macros = names.macros }

abbrev pub with_table : Names → calculus.Declared → Names
with_table names d = record { frees = names.frees; constructors = names.constructors; destructors = names.destructors; events = names.events; tables = names.tables ++ d ∷ []; macros = names.macros }

abbrev pub with_macro : Names → Macro → Names
with_macro names m = record { frees = names.frees; constructors = names.constructors; destructors = names.destructors; events = names.events; tables = names.tables; macros = names.macros ++ m ∷ [] }

-- the scope of these names
abbrev pub among : Texts → Names → Scope
among text names = record { text = text; names = names }

-- the names with one free name more, and with a row of them
abbrev pub declare_free : Texts → Names → Bool → ℕ → Answer Names
declare_free text names public n = do
  free ← free_name (among text names) public n
  Ok (with_free names free)

abbrev pub declare_frees : Texts → Names → Bool → List ℕ → Answer Names
declare_frees text names public [] = Ok names
declare_frees text names public (n ∷ ns) = do
  next ← declare_free text names public n
  declare_frees text next public ns

abbrev pub declare_constructor : Texts → Names → Bool → Bool → ℕ → ℕ → Answer Names
declare_constructor text names public is_data n a = do
  found ← constructor (among text names) public is_data n a
  Ok (with_constructor names found)

abbrev pub declare_destructor : Texts → Names → ℕ → RuleSketch → List RuleSketch → Answer Names
declare_destructor text names n first others = do
  found ← destructor (among text names) n first others
  Ok (with_destructor names found)

abbrev pub declare_event : Texts → Names → ℕ → ℕ → Answer Names
declare_event text names n a = do
  found ← event (among text names) n a
  Ok (with_event names found)

abbrev pub declare_table : Texts → Names → ℕ → ℕ → Answer Names
declare_table text names n a = do
  found ← event (among text names) n a
  Ok (with_table names found)

abbrev pub declare_macro : Texts → Names → ℕ → ProcessSketch → Answer Names
declare_macro text names n body = do
  word ← new_name (among text names) n
  Ok (with_macro names (record { name = n; body = body }))

-- the names with those of a declaration
abbrev pub declare : Texts → Names → DeclarationSketch → Answer Names
declare text names (Free n public x xs) = declare_frees text names public (x ∷ xs)
declare text names (Fun n public x a) = declare_constructor text names public false x a
declare text names (Data n x a) = declare_constructor text names true true x a
declare text names (Reduc n r rs) = declare_destructor text names n r rs
declare text names (Event n x a) = declare_event text names x a
declare text names (Table n x a) = declare_table text names x a
declare text names (Query n q) = Ok names
declare text names (Definition n x body) = declare_macro text names x body

-- the names with those of all declarations, in order
abbrev pub declare_all : Texts → Names → List DeclarationSketch → Answer Names
declare_all text names [] = Ok names
declare_all text names (d ∷ ds) = do
  next ← declare text names d
  declare_all text next ds
