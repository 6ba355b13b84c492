-- Sources: where a clause of a translation comes from. A raw clause, the number of the flat part whose norm the clause is, and what a run
-- does where an instance of the raw clause is used (the reconstruction of attacks from derivations: Allamigeon and Blanchet 2005).
use Rattle.std.specs.Prelude.{ℕ, List, [], ◌++◌, cond, Option, Some, None, is_some, option_and_then, map, flat_map, filter_map}
use Rattle.std.specs.List.{enumerate_from}
use Rattle.spec_trees.specs.Tree.{bind}
use Rattle.spec_calculus.specs.Points.{numbered}
use Rattle.spec_terms.specs.Term.{Term, Subst}
use Rattle.spec_clauses.specs.Fact.{Clause, clause_under, phase_of}
use Rattle.spec_clauses.specs.Flat.{flat_parts}
use Rattle.spec_clauses.specs.Variables.{leaves, clause_variables, constrained_variables}
use Rattle.spec_clauses.specs.Norm.{norm, numbering}

-- how a thread went on at a `let` or a `get`
pub data Choice : Type 0 where
  -- with the value of that label; at a `get`, whose label is empty, with an entry
  Taken : (label : List ℕ) → Choice
  -- to the else branch
  Else : Choice

-- The way of a thread to a point: how it went on at each `let` and `get` above the point, the messages that it received and the terms of
-- the entries that it took, the numbers of the copies that it comes from, each outermost first, and the phase.
pub record Way : Type 0 where
  pub point : ℕ
  pub choices : List Choice
  pub messages : List Term
  pub sessions : List Term
  pub phase : ℕ

-- what a run does where an instance of a raw clause is used
pub data Action : Type 0 where
  -- nothing
  Idle : Action
  -- the attacker applies the constructor of that number
  Builds : (constructor : ℕ) → Action
  -- the attacker applies the rule of the destructor
  Reduces : (destructor rule : ℕ) → Action
  -- a thread goes that way, and does what its point says
  Reaches : (way : Way) → Action

pub record Source : Type 0 where
  pub raw : Clause Term
  -- the number of the flat part, from 1
  pub part : ℕ
  pub action : Action

-- a way, an action and a source under a substitution
abbrev pub way_under : Subst → Way → Way
way_under s way = record way { messages = map (bind s) way.messages; sessions = map (bind s) way.sessions }

abbrev pub action_under : Subst → Action → Action
action_under s Idle = Idle
action_under s (Builds f) = Builds f
action_under s (Reduces d r) = Reduces d r
action_under s (Reaches way) = Reaches (way_under s way)

abbrev pub source_under : Subst → Source → Source
source_under s source = record { raw = clause_under s source.raw; part = source.part; action = action_under s source.action }

-- the terms of an action: messages, then sessions
abbrev pub action_terms : Action → List Term
action_terms Idle = []
action_terms (Builds f) = []
action_terms (Reduces d r) = []
action_terms (Reaches way) = way.messages ++ way.sessions

-- the variables of a source: those of the conclusion, hypotheses, constraints, messages and sessions, in this order
abbrev pub source_variables : Source → List ℕ
source_variables source = clause_variables source.raw ++ (constrained_variables source.raw ++ flat_map leaves (action_terms source.action))

-- the source with its variables numbered by first occurrence, so that it is one, whatever new variables and unifiers were taken
abbrev pub numbered_source : Source → Source
numbered_source source = source_under (numbering (source_variables source)) source

-- the source of a flat part of that number, unless the part says nothing
abbrev pub part_source : Action → Clause Term → ℕ × Clause Term → Option Source
part_source action raw (number, part) =
    cond (is_some (norm part)) (Some (numbered_source (record { raw = raw; part = number; action = action }))) None

-- the sources of a raw clause: one for each of its flat parts that says something, in order
abbrev pub sources_of : Action → Clause Term → List Source
sources_of action raw = filter_map (part_source action raw) (enumerate_from 1 (flat_parts raw))

-- the flat part that a source is about, and the clause of the translation: its norm
abbrev pub part_of : Source → Option (Clause Term)
part_of source = numbered (flat_parts source.raw) source.part

abbrev pub clause_of : Source → Option (Clause Term)
clause_of source = option_and_then norm (part_of source)

-- the phase in which a source is used: of the way, and otherwise of the conclusion
abbrev pub stage : Action → ℕ → ℕ
stage (Reaches way) phase = way.phase
stage other phase = phase

abbrev pub stage_of : Source → ℕ
stage_of source = stage source.action (phase_of source.raw.conclusion)
