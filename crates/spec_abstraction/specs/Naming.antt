-- The abstraction of a run: what terms of clauses its values stand for (Blanchet 2016, section 4: names as functions of what stands above them).
use Rattle.std.specs.Prelude.{◌≡◌, ℕ, cond, nat_eq, List, [], ◌∷◌, map}
use Rattle.std.specs.List.{AllByRecursion}
use Rattle.spec_trees.specs.Tree.{Leaf, node}
use Rattle.spec_calculus.specs.Syntax.{Protocol}
use Rattle.spec_calculus.specs.Values.{Atom, FreeName, MadeName, AttackerName, Value, Environment}
use Rattle.spec_calculus.specs.Values as calculus
use Rattle.spec_calculus.specs.Tables.{Held}
use Rattle.spec_calculus.specs.Runs.{Performed}
use Rattle.spec_terms.specs.Term.{Attacker, Term}
use Rattle.spec_clauses.specs.Diff.{Diff}
use Rattle.spec_clauses.specs.Fact.{Fact, Tab, Ev, Mev}
use Rattle.spec_translation.specs.Conversion.{StandsFor, free_term, name_term, converted}
use Rattle.spec_translation.specs.Visit.{Visit}
use Rattle.spec_abstraction.specs.Trace.{Past, MadeAt}

-- a naming has a term for each name that was made: of its point, with its number
abbrev pub Naming : Type 0
Naming = ℕ → ℕ → Term

-- a name as a term: a free name is itself, and a name of the attacker has its number as a variable that stands for itself
abbrev pub atom_term : Naming → Atom → Term
atom_term names (FreeName n) = free_term n
atom_term names (MadeName point number) = names point number
atom_term names (AttackerName number) = node Attacker (Leaf number ∷ [])

-- a value as a term
abbrev pub abstracted : Protocol → Naming → Value → Term
abstracted P names v = converted P (atom_term names) v

-- the term of a made name: its point's, over the messages and the copies of the thread that made it
abbrev pub made_term : Protocol → Naming → MadeAt → Term
made_term P names e = name_term e.point (map (abstracted P names) e.past.messages) (map Leaf e.past.sessions)

-- The naming gives each made name its term, over itself.
abbrev pub Names : Protocol → Naming → List MadeAt → Type 0
Names P names made = AllByRecursion (λ e. names e.point e.number ≡ made_term P names e) made

-- the naming of the names that were made, the newest first: each over those made before
abbrev pub naming : Protocol → List MadeAt → Naming
naming P [] point number = free_term 0
naming P (e ∷ es) point number = cond (nat_eq e.number number) (made_term P (naming P es) e) (naming P es point number)

-- what a visit of a thread has besides its environment and its past: the hypotheses, the constraints, and the phase
pub record Carried : Type 0 where
  pub facts : List (Fact Term)
  pub diffs : List Diff
  pub phase : ℕ

-- a thread's environment, and all that is known of the thread, as a visit
abbrev pub abstracted_binding : Protocol → Naming → calculus.Binding → StandsFor
abstracted_binding P names b = record { name = b.name; term = abstracted P names b.value }

abbrev pub abstracted_visit : Protocol → Naming → Environment → Past → Carried → Visit
abstracted_visit P names environment past carried = record {
  scope = map (abstracted_binding P names) environment;
  hypotheses = carried.facts;
  diffs = carried.diffs;
  messages = map (abstracted P names) past.messages;
  sessions = map Leaf past.sessions;
  phase = carried.phase;
}

-- an event that was performed, as a fact that has run, and as one that must have run
abbrev pub performed_fact : Protocol → Naming → Performed → Fact Term
performed_fact P names performed = Ev performed.event (map (abstracted P names) performed.arguments)

abbrev pub event_fact : Protocol → Naming → Performed → Fact Term
event_fact P names performed = Mev performed.event (map (abstracted P names) performed.arguments)

abbrev pub event_facts : Protocol → Naming → List Performed → List (Fact Term)
event_facts P names performed = map (event_fact P names) performed

-- an entry of a table, as a fact
abbrev pub held_fact : Protocol → Naming → Held → Fact Term
held_fact P names held = Tab held.table (map (abstracted P names) held.arguments)
