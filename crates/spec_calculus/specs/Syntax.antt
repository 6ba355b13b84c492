-- The syntax of protocols as plain data: terms, processes, queries (Blanchet 2016, section 2.1, untyped).
use Rattle.std.specs.Prelude.{ℕ, List, Bool, Option}
use Rattle.spec_trees.specs.Tree.{Tree}

-- a leaf of a term
pub data Name : Type 0 where
  -- the free name of that number, from 1
  Free : (number : ℕ) → Name
  -- the name of the restriction at that point
  Made : (point : ℕ) → Name
  -- the variable that is bound as that one in pre-order, from 1; in a rule or a query the one of that number
  Variable : (number : ℕ) → Name

-- the root of a term that has arguments
pub data Symbol : Type 0 where
  -- the declared constructor of that number, from 1
  Constructor : (number : ℕ) → Symbol
  -- the tuple of as many parts as it has arguments
  Tuple : Symbol

-- a term: names, and constructors of terms
abbrev pub Term : Type 0
Term = Tree Name Symbol

-- a leaf of a pattern
pub data Hole : Type 0 where
  -- binds the variable
  Bind : (number : ℕ) → Hole
  -- takes what is equal to the term
  Equal : (term : Term) → Hole

-- a pattern: holes, and data constructors of patterns
abbrev pub Pattern : Type 0
Pattern = Tree Hole Symbol

-- the root of a part of an expression that has parts of its own
pub data Head (D : Type 0) : Type 0 where
  -- a constructor or a tuple of the parts
  Builds : (symbol : Symbol) → Head D
  -- the destructor, applied to the parts
  Calls : (destructor : D) → Head D

-- what a `let` evaluates: terms, and constructors, tuples and destructors of such; a destructor is given by its number, from 1
abbrev pub Expression : Type 0
Expression = Tree Term (Head ℕ)

-- a rule of a destructor: its leaves are its variables, and each on the right stands on the left
pub record Rule : Type 0 where
  pub left : List Term
  pub right : Term

-- an expression with a rule in place of each destructor
abbrev pub Ruled : Type 0
Ruled = Tree Term (Head Rule)

-- the event of that number, from 1, of the terms
pub record EventTerm : Type 0 where
  pub event : ℕ
  pub arguments : List Term

-- what a `get` asks of an entry besides its patterns: that the values of these two terms are equal
abbrev pub Condition : Type 0
Condition = Option (Term × Term)

-- a process
pub data Process : Type 0 where
  -- nothing
  Nil : Process
  -- sends the message on the channel, and goes on
  Output : (channel message : Term) → (next : Process) → Process
  -- receives on the channel what matches the pattern, and goes on
  Input : (channel : Term) → (pattern : Pattern) → (next : Process) → Process
  -- both, side by side
  Parallel : (left right : Process) → Process
  -- as many copies as are wanted
  Replication : (copied : Process) → Process
  -- makes a name that no one else has, and goes on
  New : (word : List ℕ) → (next : Process) → Process
  -- goes on with a value of the expression that matches the pattern, or otherwise where there is none
  Let : (pattern : Pattern) → (expression : Expression) → (next otherwise : Process) → Process
  -- performs the event, and goes on
  Event : (performed : EventTerm) → (next : Process) → Process
  -- waits for the phase of that number, and goes on in it
  Phase : (number : ℕ) → (next : Process) → Process
  -- writes the terms into the table of that number, from 1, as one more entry, and goes on
  Insert : (table : ℕ) → (arguments : List Term) → (next : Process) → Process
  -- goes on with an entry of the table that matches the patterns and meets the condition, or otherwise where there is none
  Get : (table : ℕ) → (patterns : List Pattern) → (condition : Condition) → (next otherwise : Process) → Process

-- a declared name, with the bytes of its word
pub record Declared : Type 0 where
  pub word : List ℕ
  pub arity : ℕ
  pub public : Bool
  pub is_data : Bool

-- a declared destructor
pub record Destructor : Type 0 where
  pub word : List ℕ
  pub rules : List Rule

-- what is asked of a protocol
pub data Query : Type 0 where
  -- does the attacker not get to know the message up to the phase?
  Secret : (message : Term) → (phase : ℕ) → Query
  -- does the attacker not get to know a name of the restriction at that point up to the phase?
  SecretNew : (point phase : ℕ) → Query
  -- is each event that is an instance of the left one preceded by all events of one of the alternatives?
  Correspondence : (left : EventTerm) → (alternatives : List (List EventTerm)) → Query

-- a protocol: its declarations in order, its queries, and its main process
pub record Protocol : Type 0 where
  pub frees : List Declared
  pub constructors : List Declared
  pub destructors : List Destructor
  pub events : List Declared
  pub tables : List Declared
  pub queries : List Query
  pub main : Process
