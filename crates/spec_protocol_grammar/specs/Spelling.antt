-- How a sketch is spelled: the words that it wants, one after the other, each with the level of the construct that
-- holds it directly. A process of the file or of a macro and each term or event of a declaration or query stands at
-- level 1; a process, unit, term, event or pattern stands one level below the one of these that holds it directly.
use Rattle.std.specs.Prelude.{◌≡◌, ◌≢◌, ℕ, ◌+◌, ◌≤◌, Bool, true, false, IsTrue, List, [], ◌∷◌, ◌++◌, Option, Some, None}
use Rattle.spec_calculus.specs.Bounds.{most_levels}
use Rattle.spec_protocol_grammar.specs.declared.class.Class.{Class}
use Rattle.spec_protocol_grammar.specs.declared.class.Class.TheVariants as w
use Rattle.spec_protocol_grammar.specs.Classes.{Word, Source, fits}
use Rattle.spec_protocol_grammar.specs.Sketch.{TermSketch, Named, Grouped, TermsSketch, none, more, PatternSketch, NamedPattern, Equal, GroupedPattern, PatternsSketch, no_patterns, more_patterns, AtomSketch, ConditionSketch, always, such_that, ProcessSketch, Process, BesideSketch, alone, beside, UnitSketch, Zero, Macro, Inner, Replicated, New, Output, Input, Happens, Let, If, Phase, Insert, Get, NextSketch, omitted, given, AlternativeSketch, QuerySketch, AttackerNew, Attacker, Correspondence, RuleSketch, DeclarationSketch, Free, Fun, Data, Reduc, Event, Table, Query, Definition, FileSketch}

-- what a sketch wants at a place of the file
pub data Item : Type 0 where
  -- a word of this class, with its number where the sketch keeps it
  one : (level : ℕ) → (number : Option ℕ) → (class : Class) → Item
  -- a part is omitted, whose first word is of this class
  no : (class : Class) → Item
  -- what no text is, where a list may not be empty
  nothing : Item

-- a word whose number the sketch keeps
abbrev pub kept : ℕ → ℕ → Class → Item
kept level number class = one level (Some number) class

-- a word that the grammar alone wants
abbrev pub word : ℕ → Class → Item
word level class = one level None class

abbrev mutual
  -- `name`, `name(arguments)` or `(parts)`
  pub term : ℕ → TermSketch → List Item
  term l (Named n ts) = kept l n w.Name ∷ arguments l ts
  term l (Grouped n ts) = kept l n w.Open ∷ (terms l ts ++ (word l w.Close ∷ []))

  -- nothing, or `(arguments)`
  pub arguments : ℕ → TermsSketch → List Item
  arguments l none = no w.Open ∷ []
  arguments l (more t ts) = word l w.Open ∷ ((term (l + 1) t ++ more_terms l ts) ++ (word l w.Close ∷ []))

  -- at least one term
  pub terms : ℕ → TermsSketch → List Item
  terms l none = nothing ∷ []
  terms l (more t ts) = term (l + 1) t ++ more_terms l ts

  -- further terms, a comma before each
  pub more_terms : ℕ → TermsSketch → List Item
  more_terms l none = no w.Comma ∷ []
  more_terms l (more t ts) = word l w.Comma ∷ (term (l + 1) t ++ more_terms l ts)

abbrev mutual
  -- `name`, `name(arguments)`, `= term` or `(parts)`
  pub pattern : ℕ → PatternSketch → List Item
  pattern l (NamedPattern n ps) = kept l n w.Name ∷ pattern_arguments l ps
  pattern l (Equal n t) = kept l n w.Equals ∷ term (l + 1) t
  pattern l (GroupedPattern n ps) = kept l n w.Open ∷ (patterns l ps ++ (word l w.Close ∷ []))

  -- nothing, or `(arguments)`
  pub pattern_arguments : ℕ → PatternsSketch → List Item
  pattern_arguments l no_patterns = no w.Open ∷ []
  pattern_arguments l (more_patterns p ps) = word l w.Open ∷ ((pattern (l + 1) p ++ commas_patterns l ps) ++ (word l w.Close ∷ []))

  -- at least one pattern
  pub patterns : ℕ → PatternsSketch → List Item
  patterns l no_patterns = nothing ∷ []
  patterns l (more_patterns p ps) = pattern (l + 1) p ++ commas_patterns l ps

  -- further patterns, a comma before each
  pub commas_patterns : ℕ → PatternsSketch → List Item
  commas_patterns l no_patterns = no w.Comma ∷ []
  commas_patterns l (more_patterns p ps) = word l w.Comma ∷ (pattern (l + 1) p ++ commas_patterns l ps)

-- `name` or `name(arguments)`
abbrev pub atom : ℕ → AtomSketch → List Item
atom l a = kept l a.first w.Name ∷ arguments l a.arguments

-- nothing, or `suchthat left = right`
abbrev pub condition : ℕ → ConditionSketch → List Item
condition l always = no w.Suchthat ∷ []
condition l (such_that t v) = word l w.Suchthat ∷ (term (l + 1) t ++ (word l w.Equals ∷ term (l + 1) v))

abbrev mutual
  -- a unit, and what runs beside it
  pub process : ℕ → ProcessSketch → List Item
  process l (Process u b) = unit (l + 1) u ++ besides l b

  -- nothing, or `| process`
  pub besides : ℕ → BesideSketch → List Item
  besides l alone = no w.Bar ∷ []
  besides l (beside p) = word l w.Bar ∷ process (l + 1) p

  -- one line for each alternative
  pub unit : ℕ → UnitSketch → List Item
  unit l (Zero n) = kept l n w.Zero ∷ []
  unit l (Macro n) = kept l n w.Name ∷ []
  unit l (Inner n p) = kept l n w.Open ∷ (process (l + 1) p ++ (word l w.Close ∷ []))
  unit l (Replicated n u) = kept l n w.Bang ∷ unit (l + 1) u
  unit l (New n x k) = kept l n w.New ∷ kept l x w.Name ∷ next w.Semicolon l k
  unit l (Output n c m k) = kept l n w.Out ∷ word l w.Open ∷ (term (l + 1) c ++ (word l w.Comma ∷ (term (l + 1) m ++ (word l w.Close ∷ next w.Semicolon l k))))
  unit l (Input n c p k) = kept l n w.In ∷ word l w.Open ∷ (term (l + 1) c ++ (word l w.Comma ∷ (pattern (l + 1) p ++ (word l w.Close ∷ next w.Semicolon l k))))
  unit l (Happens n a k) = kept l n w.Event ∷ (atom (l + 1) a ++ next w.Semicolon l k)
  unit l (Let n p t u k) = kept l n w.Let ∷ (pattern (l + 1) p ++ (word l w.Equals ∷ (term (l + 1) t ++ (word l w.In ∷ (unit (l + 1) u ++ next w.Else l k)))))
  unit l (If n t v u k) = kept l n w.If ∷ (term (l + 1) t ++ (word l w.Equals ∷ (term (l + 1) v ++ (word l w.Then ∷ (unit (l + 1) u ++ next w.Else l k)))))
  unit l (Phase n x k) = kept l n w.Phase ∷ kept l x w.Number ∷ next w.Semicolon l k
  unit l (Insert n a k) = kept l n w.Insert ∷ (atom (l + 1) a ++ next w.Semicolon l k)
  unit l (Get n t ps c u k) = kept l n w.Get ∷ kept l t w.Name ∷ ((pattern_arguments l ps ++ condition l c) ++ (word l w.In ∷ (unit (l + 1) u ++ next w.Else l k)))

  -- nothing, or a unit behind `;` or `else`
  pub next : Class → ℕ → NextSketch → List Item
  next before l omitted = no before ∷ []
  next before l (given u) = word l before ∷ unit (l + 1) u

-- further parts, a word of this level and class before each
abbrev pub more_of : {X : Type 0} → ℕ → Class → (X → List Item) → List X → List Item
more_of l before part [] = no before ∷ []
more_of l before part (x ∷ xs) = word l before ∷ (part x ++ more_of l before part xs)

-- a name
abbrev pub name : ℕ → List Item
name x = kept 0 x w.Name ∷ []

-- `event atom`
abbrev pub happening : AtomSketch → List Item
happening a = word 0 w.Event ∷ atom 1 a

-- events, `&&` between them
abbrev pub alternative : AlternativeSketch → List Item
alternative a = happening a.atom ++ more_of 0 w.And happening a.others

-- `false`, or alternatives, `||` between them
abbrev pub alternatives : List AlternativeSketch → List Item
alternatives [] = word 0 w.False ∷ []
alternatives (first ∷ others) = alternative first ++ more_of 0 w.Or alternative others

-- nothing, or `phase number`
abbrev pub asked_phase : Option ℕ → List Item
asked_phase None = no w.Phase ∷ []
asked_phase (Some x) = word 0 w.Phase ∷ kept 0 x w.Number ∷ []

-- one line for each kind of query
abbrev pub question : QuerySketch → List Item
question (AttackerNew n x o) = kept 0 n w.Attacker ∷ word 0 w.Open ∷ word 0 w.New ∷ kept 0 x w.Name ∷ word 0 w.Close ∷ asked_phase o
question (Attacker n t o) = kept 0 n w.Attacker ∷ word 0 w.Open ∷ (term 1 t ++ (word 0 w.Close ∷ asked_phase o))
question (Correspondence n a others) = kept 0 n w.Event ∷ (atom 1 a ++ (word 0 w.Implies ∷ alternatives others))

-- `name(arguments) -> result`
abbrev pub rule : RuleSketch → List Item
rule r = kept 0 r.first w.Name ∷ word 0 w.Open ∷ (terms 0 r.arguments ++ (word 0 w.Close ∷ word 0 w.Arrow ∷ term 1 r.result))

-- the word that a declaration begins with, after `private` if it is not public
abbrev pub visible : ℕ → Bool → Class → List Item → List Item
visible n true class rest = kept 0 n class ∷ rest
visible n false class rest = kept 0 n w.Private ∷ word 0 class ∷ rest

-- `name/arity.`
abbrev pub sized : ℕ → ℕ → List Item
sized x a = kept 0 x w.Name ∷ word 0 w.Slash ∷ kept 0 a w.Number ∷ word 0 w.Dot ∷ []

-- one line for each kind of declaration
abbrev pub declaration : DeclarationSketch → List Item
declaration (Free n public x xs) = visible n public w.Free (kept 0 x w.Name ∷ (more_of 0 w.Comma name xs ++ (word 0 w.Dot ∷ [])))
declaration (Fun n public x a) = visible n public w.Fun (sized x a)
declaration (Data n x a) = kept 0 n w.Data ∷ sized x a
declaration (Reduc n r rs) = kept 0 n w.Reduc ∷ ((rule r ++ more_of 0 w.Semicolon rule rs) ++ (word 0 w.Dot ∷ []))
declaration (Event n x a) = kept 0 n w.Event ∷ sized x a
declaration (Table n x a) = kept 0 n w.Table ∷ sized x a
declaration (Query n q) = kept 0 n w.Query ∷ (question q ++ (word 0 w.Dot ∷ []))
declaration (Definition n x p) = kept 0 n w.Let ∷ kept 0 x w.Name ∷ word 0 w.Equals ∷ (process 1 p ++ (word 0 w.Dot ∷ []))

-- `process`, the main process, and the end
abbrev pub main : ℕ → ProcessSketch → List Item
main n p = kept 0 n w.Process ∷ (process 1 p ++ (word 0 w.End ∷ []))

-- declarations, and what stands behind them
abbrev pub declarations : List DeclarationSketch → List Item → List Item
declarations [] behind = behind
declarations (d ∷ ds) behind = declaration d ++ declarations ds behind

-- the declarations, and the main process
abbrev pub file : FileSketch → List Item
file f = declarations f.declarations (main f.first f.main)

-- the word will do where this class is wanted, and has this number
abbrev pub IsWord : Word → Option ℕ → Class → Type 0
IsWord found None class = IsTrue (fits class found.class)
IsWord found (Some number) class = (found.number ≡ number) × IsTrue (fits class found.class)

-- from `at` to `end` the file has the words of these items
abbrev pub Words : Source → ℕ → List Item → ℕ → Type 0
Words s at [] end = at ≡ end
Words s at (one level number class ∷ items) end = IsWord (s at) number class × Words s (at + 1) items end
Words s at (no class ∷ items) end = Words s at items end
Words s at (nothing ∷ items) end = ⊥

-- no item stands below the limit of levels
abbrev pub IsShallow : List Item → Type 0
IsShallow [] = Unit {0}
IsShallow (one level number class ∷ items) = (level ≤ most_levels) × IsShallow items
IsShallow (no class ∷ items) = IsShallow items
IsShallow (nothing ∷ items) = IsShallow items

-- the class of the first word, `behind` where there is none
abbrev pub first_of : List Item → Class → Class
first_of [] behind = behind
first_of (one level number class ∷ items) behind = class
first_of (no class ∷ items) behind = first_of items behind
first_of (nothing ∷ items) behind = first_of items behind

-- a part is omitted only where its first word does not come next, so an `else` belongs to the nearest `let`, `if` or
-- `get` that has none; nothing else that may be omitted can come next. No list is empty that may not be
abbrev pub IsGreedy : List Item → Class → Type 0
IsGreedy [] behind = Unit {0}
IsGreedy (one level number class ∷ items) behind = IsGreedy items behind
IsGreedy (no class ∷ items) behind = (class ≢ first_of items behind) × IsGreedy items behind
IsGreedy (nothing ∷ items) behind = ⊥

-- the file is spelled as the sketch is, from its first word to its end, within the limit of levels
pub record IsSketch (s : Source) (f : FileSketch) : Type 0 where
  pub greedy : IsGreedy (file f) w.End
  pub end : ℕ
  pub words : Words s 0 (file f) end
  pub shallow : IsShallow (file f)
