-- What terms and patterns may hold where they stand: leaves that are bound or declared, and symbols with their numbers of arguments.
use Rattle.std.specs.Prelude.{◌≡◌, ℕ, ◌+◌, ◌<◌, ◌≤◌, true, List, length, Some, Contains, filter_map, Option, None}
use Rattle.std.specs.List.{AllByRecursion}
use Rattle.std.specs.Option.{option_map_or}
use Rattle.spec_trees.specs.Tree.{Tree, Trees, Leaf, Node, none, more, trees, size}
use Rattle.spec_calculus.specs.Bounds.{most_arguments, most_written_symbols, most_applications, most_choices}
use Rattle.spec_calculus.specs.Syntax.{Name, Free, Made, Variable, Symbol, Constructor, Tuple, Term, Hole, Bind, Equal, Pattern, Condition, Head, Builds, Calls, Expression, EventTerm, Declared, Destructor}
use Rattle.spec_calculus.specs.Points.{numbered}
use Rattle.spec_calculus.specs.Matching.{IsLinear}
use Rattle.spec_calculus.specs.Tables.{row_pattern, sides}
use Rattle.spec_calculus.specs.Choices.{applications, row_applications, choice_count}
use Rattle.spec_well_formed.specs.Signature.{Signature}
use Rattle.spec_well_formed.specs.Leaves.{leaves}

-- how many trees stand in a row
abbrev pub row_length : {L S : Type 0} → Trees L S → ℕ
row_length none = 0
row_length (more t ts) = row_length ts + 1

-- this holds of each symbol of the tree and the number of its arguments
abbrev mutual
  pub EachSymbol : {L S : Type 0} → (S → ℕ → Type 0) → Tree L S → Type 0
  EachSymbol Q (Leaf x) = Unit {0}
  EachSymbol Q (Node f args) = Q f (row_length args) × EachSymbolInRow Q args

  pub EachSymbolInRow : {L S : Type 0} → (S → ℕ → Type 0) → Trees L S → Type 0
  EachSymbolInRow Q none = Unit {0}
  EachSymbolInRow Q (more t ts) = EachSymbol Q t × EachSymbolInRow Q ts

-- among these declared names the one of that number has this arity
pub record HasArity (items : List Declared) (number arity : ℕ) : Type 0 where
  pub declared : Declared
  pub stands : numbered items number ≡ Some declared
  pub is : declared.arity ≡ arity

-- one of these constructors takes so many arguments; a tuple has two parts at least, and no more than the limit of arguments
abbrev pub TakesArguments : Signature → Symbol → ℕ → Type 0
TakesArguments signature (Constructor number) count = HasArity signature.constructors number count
TakesArguments signature Tuple count = (2 ≤ count) × (count ≤ most_arguments)

-- one that is a data constructor
pub record HasDataArity (items : List Declared) (number arity : ℕ) : Type 0 where
  pub declared : Declared
  pub stands : numbered items number ≡ Some declared
  pub is : declared.arity ≡ arity
  pub is_data : declared.is_data ≡ true

abbrev pub TakesPatterns : Signature → Symbol → ℕ → Type 0
TakesPatterns signature (Constructor number) count = HasDataArity signature.constructors number count
TakesPatterns signature Tuple count = (2 ≤ count) × (count ≤ most_arguments)

-- a term over these leaves and constructors, of no more symbols than may be written
pub record IsTermOver (signature : Signature) (IsLeaf : Name → Type 0) (t : Term) : Type 0 where
  pub known : AllByRecursion IsLeaf (leaves t)
  pub arities : EachSymbol (TakesArguments signature) t
  pub few : size t ≤ most_written_symbols

-- what is bound above, or a declared free name
abbrev pub IsKnown : Signature → List Name → Name → Type 0
IsKnown signature bound (Free n) = (0 < n) × (n ≤ length signature.frees)
IsKnown signature bound (Made p) = Contains bound (Made p)
IsKnown signature bound (Variable i) = Contains bound (Variable i)

-- a term of a process, where these leaves are bound
abbrev pub IsTermBelow : Signature → List Name → Term → Type 0
IsTermBelow signature bound t = IsTermOver signature (IsKnown signature bound) t

-- the variable that a hole binds, if it binds one
abbrev pub bound_by_hole : Hole → Option Name
bound_by_hole (Bind i) = Some (Variable i)
bound_by_hole (Equal t) = None

-- the variables that a pattern binds, from left to right
abbrev pub bound_by : Pattern → List Name
bound_by p = filter_map bound_by_hole (leaves p)

abbrev pub IsHoleBelow : Signature → List Name → Hole → Type 0
IsHoleBelow signature bound (Bind i) = Unit {0}
IsHoleBelow signature bound (Equal t) = IsTermBelow signature bound t

-- a pattern where these leaves are bound: it binds no variable twice, and none that is bound already
pub record IsPatternBelow (signature : Signature) (bound : List Name) (p : Pattern) : Type 0 where
  pub linear : IsLinear p
  pub new : AllByRecursion (λ x. Contains bound x → ⊥) (bound_by p)
  pub holes : AllByRecursion (IsHoleBelow signature bound) (leaves p)
  pub arities : EachSymbol (TakesPatterns signature) p

-- the variables that the patterns of a row bind, from left to right
abbrev pub bound_by_row : List Pattern → List Name
bound_by_row patterns = bound_by (row_pattern patterns)

-- the same of a row of patterns: all their terms are read before any of them binds
pub record IsRowBelow (signature : Signature) (bound : List Name) (patterns : List Pattern) : Type 0 where
  pub linear : IsLinear (row_pattern patterns)
  pub new : AllByRecursion (λ x. Contains bound x → ⊥) (bound_by_row patterns)
  pub holes : AllByRecursion (IsHoleBelow signature bound) (leaves (row_pattern patterns))
  pub arities : EachSymbolInRow (TakesPatterns signature) (trees patterns)

-- a condition where these leaves are bound
abbrev pub IsConditionBelow : Signature → List Name → Condition → Type 0
IsConditionBelow signature bound condition = AllByRecursion (IsTermBelow signature bound) (sides condition)

-- all rules of the destructor of that number take so many arguments
pub record HasRulesFor (signature : Signature) (number arity : ℕ) : Type 0 where
  pub destructor : Destructor
  pub stands : numbered signature.destructors number ≡ Some destructor
  pub are : AllByRecursion (λ r. length r.left ≡ arity) destructor.rules

-- how many rules the destructor of that number has
abbrev pub rule_count : Signature → ℕ → ℕ
rule_count signature d = option_map_or (λ destructor. length destructor.rules) (numbered signature.destructors d) 0

-- a root of an expression takes so many parts
abbrev pub TakesParts : Signature → Head ℕ → ℕ → Type 0
TakesParts signature (Builds f) count = TakesArguments signature f count
TakesParts signature (Calls d) count = HasRulesFor signature d count

-- below each constructor and each tuple of an expression a destructor stands: a part without destructors is a term
abbrev mutual
  pub IsMerged : Expression → Type 0
  IsMerged (Leaf t) = Unit {0}
  IsMerged (Node (Builds f) parts) = (0 < row_applications parts) × IsMergedRow parts
  IsMerged (Node (Calls d) parts) = IsMergedRow parts

  pub IsMergedRow : Trees Term (Head ℕ) → Type 0
  IsMergedRow none = Unit {0}
  IsMergedRow (more part parts) = IsMerged part × IsMergedRow parts

-- the symbols of an expression; a destructor's name counts as one
abbrev mutual
  pub expression_size : Expression → ℕ
  expression_size (Leaf t) = size t
  expression_size (Node head parts) = 1 + row_expression_size parts

  pub row_expression_size : Trees Term (Head ℕ) → ℕ
  row_expression_size none = 0
  row_expression_size (more part parts) = expression_size part + row_expression_size parts

-- what a `let` evaluates where these leaves are bound: within the limits of symbols, of applications of destructors, and of choices
-- of a rule for each
pub record IsExpressionBelow (signature : Signature) (bound : List Name) (e : Expression) : Type 0 where
  pub terms : AllByRecursion (IsTermBelow signature bound) (leaves e)
  pub heads : EachSymbol (TakesParts signature) e
  pub merged : IsMerged e
  pub few : expression_size e ≤ most_written_symbols
  pub few_applications : applications e ≤ most_applications
  pub few_choices : choice_count (rule_count signature) e ≤ most_choices

-- an event over these leaves
pub record IsEventOver (signature : Signature) (IsLeaf : Name → Type 0) (e : EventTerm) : Type 0 where
  pub declared : HasArity signature.events e.event (length e.arguments)
  pub arguments : AllByRecursion (IsTermOver signature IsLeaf) e.arguments
