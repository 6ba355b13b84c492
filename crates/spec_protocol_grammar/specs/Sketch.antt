-- What the grammar makes of a file: one variant for each alternative that it has, with the number of its first token
-- and its parts in source order. Identifiers and numbers are the numbers of their tokens, from 0.
use Rattle.std.specs.Prelude.{ℕ, Bool, List, [], ◌∷◌, Option}

mutual
  -- a term
  pub data TermSketch : Type 0 where
    -- `name(arguments)`, or `name` alone where there are no arguments
    Named : (first : ℕ) → (arguments : TermsSketch) → TermSketch
    -- `(parts)`: a term in parentheses, or a tuple
    Grouped : (first : ℕ) → (parts : TermsSketch) → TermSketch

  -- terms in a row
  pub data TermsSketch : Type 0 where
    none : TermsSketch
    more : (term : TermSketch) → (terms : TermsSketch) → TermsSketch

mutual
  -- a pattern
  pub data PatternSketch : Type 0 where
    -- `name(arguments)`, or `name` alone where there are no arguments
    NamedPattern : (first : ℕ) → (arguments : PatternsSketch) → PatternSketch
    -- `= term`
    Equal : (first : ℕ) → (term : TermSketch) → PatternSketch
    -- `(parts)`: a pattern in parentheses, or a tuple
    GroupedPattern : (first : ℕ) → (parts : PatternsSketch) → PatternSketch

  -- patterns in a row
  pub data PatternsSketch : Type 0 where
    no_patterns : PatternsSketch
    more_patterns : (pattern : PatternSketch) → (patterns : PatternsSketch) → PatternsSketch

-- an event, `name(arguments)`, or `name` alone where there are no arguments
pub record AtomSketch : Type 0 where
  pub first : ℕ
  pub arguments : TermsSketch

-- what is asked of an entry besides its patterns
pub data ConditionSketch : Type 0 where
  -- nothing
  always : ConditionSketch
  -- `suchthat left = right`
  such_that : (left right : TermSketch) → ConditionSketch

mutual
  -- a process: a unit, and what runs beside it
  pub data ProcessSketch : Type 0 where
    Process : (unit : UnitSketch) → (beside : BesideSketch) → ProcessSketch

  -- what runs beside a unit
  pub data BesideSketch : Type 0 where
    -- nothing
    alone : BesideSketch
    -- `| process`
    beside : (process : ProcessSketch) → BesideSketch

  -- a unit of a process
  pub data UnitSketch : Type 0 where
    -- `0`
    Zero : (first : ℕ) → UnitSketch
    -- `name`, the use of a macro
    Macro : (first : ℕ) → UnitSketch
    -- `(process)`
    Inner : (first : ℕ) → (process : ProcessSketch) → UnitSketch
    -- `! unit`
    Replicated : (first : ℕ) → (unit : UnitSketch) → UnitSketch
    -- `new name`
    New : (first name : ℕ) → (next : NextSketch) → UnitSketch
    -- `out(channel, message)`
    Output : (first : ℕ) → (channel message : TermSketch) → (next : NextSketch) → UnitSketch
    -- `in(channel, pattern)`
    Input : (first : ℕ) → (channel : TermSketch) → (pattern : PatternSketch) → (next : NextSketch) → UnitSketch
    -- `event atom`
    Happens : (first : ℕ) → (atom : AtomSketch) → (next : NextSketch) → UnitSketch
    -- `let pattern = term in unit`, and its else branch
    Let : (first : ℕ) → (pattern : PatternSketch) → (term : TermSketch) → (unit : UnitSketch) → (otherwise : NextSketch) → UnitSketch
    -- `if left = right then unit`, and its else branch
    If : (first : ℕ) → (left right : TermSketch) → (unit : UnitSketch) → (otherwise : NextSketch) → UnitSketch
    -- `phase number`
    Phase : (first number : ℕ) → (next : NextSketch) → UnitSketch
    -- `insert table(arguments)`
    Insert : (first : ℕ) → (entry : AtomSketch) → (next : NextSketch) → UnitSketch
    -- `get table(patterns) in unit`, with a condition and its else branch
    Get : (first table : ℕ) → (patterns : PatternsSketch) → (condition : ConditionSketch) → (unit : UnitSketch) → (otherwise : NextSketch) → UnitSketch

  -- a continuation, or an else branch
  pub data NextSketch : Type 0 where
    -- nothing
    omitted : NextSketch
    -- `; unit`, or `else unit`
    given : (unit : UnitSketch) → NextSketch

-- one alternative of a query: `event atom`, and further events, each behind `&&`
pub record AlternativeSketch : Type 0 where
  pub atom : AtomSketch
  pub others : List AtomSketch

-- what a query asks; of secrets with the number behind the word `phase`, if there is one
pub data QuerySketch : Type 0 where
  -- `attacker(new name)`
  AttackerNew : (first name : ℕ) → (phase : Option ℕ) → QuerySketch
  -- `attacker(message)`
  Attacker : (first : ℕ) → (message : TermSketch) → (phase : Option ℕ) → QuerySketch
  -- `event atom ==> alternatives`, or `event atom ==> false` where there are none
  Correspondence : (first : ℕ) → (atom : AtomSketch) → (alternatives : List AlternativeSketch) → QuerySketch

-- a rule, `name(arguments) -> result`
pub record RuleSketch : Type 0 where
  pub first : ℕ
  pub arguments : TermsSketch
  pub result : TermSketch

-- a declaration
pub data DeclarationSketch : Type 0 where
  -- `free name, others.`, after `private` if not public
  Free : (first : ℕ) → (public : Bool) → (name : ℕ) → (others : List ℕ) → DeclarationSketch
  -- `fun name/arity.`, after `private` if not public
  Fun : (first : ℕ) → (public : Bool) → (name arity : ℕ) → DeclarationSketch
  -- `data name/arity.`
  Data : (first name arity : ℕ) → DeclarationSketch
  -- `reduc rule; others.`
  Reduc : (first : ℕ) → (rule : RuleSketch) → (others : List RuleSketch) → DeclarationSketch
  -- `event name/arity.`
  Event : (first name arity : ℕ) → DeclarationSketch
  -- `table name/arity.`
  Table : (first name arity : ℕ) → DeclarationSketch
  -- `query question.`
  Query : (first : ℕ) → (question : QuerySketch) → DeclarationSketch
  -- `let name = process.`
  Definition : (first name : ℕ) → (process : ProcessSketch) → DeclarationSketch

-- a file: its declarations, the number of the word `process`, and the main process
pub record FileSketch : Type 0 where
  pub declarations : List DeclarationSketch
  pub first : ℕ
  pub main : ProcessSketch

-- terms in a row, from their list
abbrev pub terms_sketch : List TermSketch → TermsSketch
terms_sketch [] = none
terms_sketch (t ∷ ts) = more t (terms_sketch ts)

-- patterns in a row, from their list
abbrev pub patterns_sketch : List PatternSketch → PatternsSketch
patterns_sketch [] = no_patterns
patterns_sketch (p ∷ ps) = more_patterns p (patterns_sketch ps)
