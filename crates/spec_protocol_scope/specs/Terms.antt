-- Terms and events.
use Rattle.std.specs.Prelude.{ℕ, ◌+◌, nat_eq, nat_le, ◌&&◌, if◌then◌else◌, List, [], ◌∷◌, ◌++◌, length, Option, Some, None, Ok}
use Rattle.spec_trees.specs.Tree.{Leaf, node, size}
use Rattle.spec_calculus.specs.Bounds.{most_arguments, most_written_symbols}
use Rattle.spec_calculus.specs.Syntax.{Name, Free, Variable, Constructor, Tuple, Term, EventTerm}
use Rattle.spec_protocol_grammar.specs.Sketch.{TermSketch, Named, Grouped, TermsSketch, none, more, AtomSketch}
use Rattle.spec_protocol_scope.specs.Answers.{Answer, Unknown, Arity, Kind, LooseVariable, fault, within, ◌>>=◌}
use Rattle.spec_protocol_scope.specs.Names.{Scope, Meaning, MeansFree, MeansConstructor, MeansDestructor, MeansEvent, MeansTable, MeansMacro, look, Bound, bound_as, variable_of}

-- where a term stands: this tells what a bare identifier in it is
pub data Setting : Type 0 where
  -- in a process, where these are bound, the innermost first; in `attacker(..)` nothing is
  InProcess : (bound : List Bound) → Setting
  -- on the left of a rule, which binds its variables
  OnLeft : Setting
  -- on the right of a rule
  OnRight : Setting
  -- in an event of a query
  InEvent : Setting

-- terms with the variables of the rule or query so far, each by the token where it stands first
abbrev pub Reading : Type 0 → Type 0
Reading A = Answer (A × List ℕ)

-- a constructor that takes no arguments
abbrev pub constant : ℕ → Term
constant number = node (Constructor number) []

-- what a declared name is as a bare identifier: a free name, or a constructor that takes no arguments
abbrev pub declared_leaf : ℕ → Meaning → Answer Term
declared_leaf n (MeansFree number) = Ok (Leaf (Free number))
declared_leaf n (MeansConstructor number arity is_data) =
    if nat_eq arity 0 then Ok (constant number) else fault Arity n
declared_leaf n (MeansDestructor number arity) = fault Kind n
declared_leaf n (MeansEvent number arity) = fault Kind n
declared_leaf n (MeansTable number arity) = fault Kind n
declared_leaf n MeansMacro = fault Kind n

-- a variable of a rule or query, by its number; new where it stands first
abbrev pub variable_by : Option ℕ → List ℕ → ℕ → Reading Term
variable_by (Some number) variables n = Ok (Leaf (Variable number), variables)
variable_by None variables n = Ok (Leaf (Variable (length variables + 1)), variables ++ n ∷ [])

abbrev pub variable : Scope → List ℕ → ℕ → Reading Term
variable s variables n = variable_by (variable_of s.text variables n) variables n

-- a variable on the right of a rule, which stands on its left
abbrev pub known_variable : Option ℕ → List ℕ → ℕ → Reading Term
known_variable (Some number) variables n = Ok (Leaf (Variable number), variables)
known_variable None variables n = fault LooseVariable n

-- with the variables as they are
abbrev pub unchanged : {A : Type 0} → List ℕ → Answer A → Reading A
unchanged variables answer = do
  value ← answer
  Ok (value, variables)

-- a bare identifier that is not bound: a declared name
abbrev pub unbound : Option Meaning → ℕ → Answer Term
unbound None n = fault Unknown n
unbound (Some meaning) n = declared_leaf n meaning

-- a bare identifier in a process: what is bound, or else a declared name
abbrev pub process_leaf : Option Name → Option Meaning → ℕ → Answer Term
process_leaf (Some name) meaning n = Ok (Leaf name)
process_leaf None meaning n = unbound meaning n

-- the constant that a bare identifier in a rule is, if it is one
abbrev pub constant_of : Option Meaning → Option ℕ
constant_of (Some (MeansConstructor number arity is_data)) = if nat_eq arity 0 then Some number else None
constant_of (Some meaning) = None
constant_of None = None

-- a bare identifier in a rule: a constant, or else a variable
abbrev pub rule_leaf : Option ℕ → List ℕ → Reading Term → Reading Term
rule_leaf (Some number) variables as_variable = Ok (constant number, variables)
rule_leaf None variables as_variable = as_variable

-- a bare identifier in an event of a query: a declared name, or else a variable
abbrev pub event_leaf : Option Meaning → List ℕ → ℕ → Reading Term → Reading Term
event_leaf (Some meaning) variables n as_variable = unchanged variables (declared_leaf n meaning)
event_leaf None variables n as_variable = as_variable

-- a bare identifier
abbrev pub leaf : Scope → Setting → List ℕ → ℕ → Reading Term
leaf s (InProcess bound) variables n = unchanged variables (process_leaf (bound_as s.text bound n) (look s n) n)
leaf s OnLeft variables n = rule_leaf (constant_of (look s n)) variables (variable s variables n)
leaf s OnRight variables n =
    rule_leaf (constant_of (look s n)) variables (known_variable (variable_of s.text variables n) variables n)
leaf s InEvent variables n = event_leaf (look s n) variables n (variable s variables n)

-- how many terms stand in a row
abbrev pub count : TermsSketch → ℕ
count none = 0
count (more t ts) = count ts + 1

-- the number, where it takes as many arguments as are there
abbrev pub taking : ℕ → ℕ → ℕ → ℕ → Answer ℕ
taking n number arity given = if nat_eq arity given then Ok number else fault Arity n

-- the constructor in `f(..)`, by what f is declared as and the number of its arguments
abbrev pub constructor : ℕ → ℕ → Option Meaning → Answer ℕ
constructor n given None = fault Unknown n
constructor n given (Some (MeansConstructor number arity is_data)) = taking n number arity given
constructor n given (Some meaning) = fault Kind n

-- the event that is named so
abbrev pub event_named : ℕ → ℕ → Option Meaning → Answer ℕ
event_named n given None = fault Unknown n
event_named n given (Some (MeansEvent number arity)) = taking n number arity given
event_named n given (Some meaning) = fault Kind n

-- the table that is named so
abbrev pub table_named : ℕ → ℕ → Option Meaning → Answer ℕ
table_named n given None = fault Unknown n
table_named n given (Some (MeansTable number arity)) = taking n number arity given
table_named n given (Some meaning) = fault Kind n

-- the term, where it has no more symbols than may be written
abbrev pub sized : ℕ → Term → Answer Term
sized n t = within (nat_le (size t) most_written_symbols) n t

-- a tuple of these parts, which is one within the limit of arguments
abbrev pub tuple : ℕ → List Term → Answer Term
tuple n parts = within (nat_le (length parts) most_arguments && nat_le (size (node Tuple parts)) most_written_symbols) n (node Tuple parts)

-- what `(parts)` stands for: one term is itself, more are a tuple
abbrev pub grouped : ℕ → List Term → Answer Term
grouped n (t ∷ []) = Ok t
grouped n parts = tuple n parts

abbrev mutual
  -- a term
  pub term : Scope → Setting → List ℕ → TermSketch → Reading Term
  term s setting variables (Named n ts) = if nat_eq (count ts) 0 then leaf s setting variables n else (do
    number ← constructor n (count ts) (look s n)
    arguments ← terms s setting variables ts
    whole ← sized n (node (Constructor number) arguments.0)
    Ok (whole, arguments.1))
  term s setting variables (Grouped n ts) = do
    parts ← terms s setting variables ts
    whole ← grouped n parts.0
    Ok (whole, parts.1)

  -- terms in a row
  pub terms : Scope → Setting → List ℕ → TermsSketch → Reading (List Term)
  terms s setting variables none = Ok ([], variables)
  terms s setting variables (more t ts) = do
    first ← term s setting variables t
    others ← terms s setting first.1 ts
    Ok (first.0 ∷ others.0, others.1)

-- a term of a process below these binders
abbrev pub process_term : Scope → List Bound → TermSketch → Answer Term
process_term s bound t = do
  read ← term s (InProcess bound) [] t
  Ok read.0

-- an event of terms
abbrev pub event : Scope → Setting → List ℕ → AtomSketch → Reading EventTerm
event s setting variables a = do
  number ← event_named a.first (count a.arguments) (look s a.first)
  arguments ← terms s setting variables a.arguments
  Ok (record { event = number; arguments = arguments.0 }, arguments.1)

-- an entry that a process writes below these binders: its table, and its terms
abbrev pub entry : Scope → List Bound → AtomSketch → Answer (ℕ × List Term)
entry s bound a = do
  table ← table_named a.first (count a.arguments) (look s a.first)
  arguments ← terms s (InProcess bound) [] a.arguments
  Ok (table, arguments.0)
