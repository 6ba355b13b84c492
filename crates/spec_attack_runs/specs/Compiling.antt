-- The compilation of instances into steps: what is known of the run so far, how a step is made with all that becomes known by it, and how
-- the value of a closed term gets a place among the known ones.
use Rattle.std.specs.Prelude.{ℕ, ◌+◌, Bool, List, [], ◌∷◌, ◌++◌, length, cond, Option, None, Some, option_and_then, option_map, is_none}
use Rattle.std.specs.List.{find, enumerate_from}
use Rattle.std.specs.Option.{option_map_or}
use Rattle.spec_trees.specs.Tree.{Trees, Leaf, Node, none, more, node}
use Rattle.spec_calculus.specs.Syntax.{Symbol, Constructor, Protocol}
use Rattle.spec_calculus.specs.Syntax as calculus
use Rattle.spec_calculus.specs.Points.{numbered}
use Rattle.spec_calculus.specs.Values.{Atom, FreeName, AttackerName, Value, same_value}
use Rattle.spec_calculus.specs.Runs.{Configuration, Step, Build, Part, Fresh, start, is_data, after_step}
use Rattle.spec_calculus.specs.Limits.{limited_refusal}
use Rattle.spec_terms.specs.Term.{Sym, Ctor, Data, Tuple, Free, Point, Attacker, Term}
use Rattle.spec_clauses.specs.Fact.{same_term}
use Rattle.spec_attack_runs.specs.Source.{Choice}

-- the value that was made for a closed term: a name of a restriction or of the attacker
pub record Named : Type 0 where
  pub term : Term
  pub value : Value

-- A node of the process that was done in a copy: its point, the numbers of the copies above it, a replication's own among them, what it
-- received or took of an entry, how it went on, and its thread, with the other one that began there.
pub record Done : Type 0 where
  pub point : ℕ
  pub sessions : List Term
  pub messages : List Term
  pub choice : Choice
  pub thread : ℕ
  pub other : ℕ

-- what is known of the run so far: where it stands, its steps, the names, the nodes that were done, and the threads that wait at outputs,
-- in order
pub record State : Type 0 where
  pub configuration : Configuration
  pub steps : List Step
  pub names : List Named
  pub done : List Done
  pub waiting : List ℕ

abbrev pub start_state : Protocol → State
start_state P = record { configuration = start P; steps = []; names = []; done = []; waiting = [] }

-- the configuration after a step that no limit refuses
abbrev pub limited_step : Protocol → Configuration → Step → Option Configuration
limited_step P c step = cond (is_none (limited_refusal P c step)) (after_step P c step) None

abbrev pub limited_steps : Protocol → Configuration → List Step → Option Configuration
limited_steps P c [] = Some c
limited_steps P c (step ∷ steps) = option_and_then (λ d. limited_steps P d steps) (limited_step P c step)

-- one more step
abbrev pub stepped : Protocol → Step → State → Option State
stepped P step st = option_map (λ c. record st { configuration = c; steps = st.steps ++ step ∷ [] }) (limited_step P st.configuration step)

abbrev pub all_stepped : Protocol → List Step → State → Option State
all_stepped P [] st = Some st
all_stepped P (step ∷ steps) st = option_and_then (all_stepped P steps) (stepped P step st)

-- the steps that make the parts of the value at a place known, each followed by its own, where the next value gets the place `next`
abbrev mutual
  pub parts_of : Protocol → ℕ → ℕ → Value → List Step
  parts_of P place next (Leaf x) = []
  parts_of P place next (Node f vs) = cond (is_data P f) (row_parts_of P place 1 next vs) []

  pub row_parts_of : Protocol → ℕ → ℕ → ℕ → Trees Atom Symbol → List Step
  row_parts_of P place i next none = []
  row_parts_of P place i next (more v vs) = let own = parts_of P next (next + 1) v in
      Part place i ∷ (own ++ row_parts_of P place (i + 1) (next + 1 + length own) vs)

-- those of what became known behind the first so many known values
abbrev pub new_parts : Protocol → ℕ → State → List Step
new_parts P before st = option_map_or (parts_of P (before + 1) (before + 2)) (numbered st.configuration.known (before + 1)) []

-- A step, and then the parts of the value that it makes known.
unfoldable pub take_step : Protocol → Step → State → Option State
take_step P step st = option_and_then (λ next. all_stepped P (new_parts P (length st.configuration.known) next) next) (stepped P step st)

-- the value of a closed term, where its names were made
abbrev pub named : List Named → Term → Option Value
named names t = option_map (λ d. d.value) (find (λ d. same_term d.term t) names)

abbrev pub root_value : List Named → Term → Sym → Option (List Value) → Option Value
root_value names t (Ctor f) parts = option_map (node (Constructor f)) parts
root_value names t (Data f) parts = option_map (node (Constructor f)) parts
root_value names t (Tuple n) parts = option_map (node calculus.Tuple) parts
root_value names t (Free n) parts = Some (Leaf (FreeName n))
root_value names t (Point p) parts = named names t
root_value names t Attacker parts = named names t

abbrev mutual
  pub closed_value : List Named → Term → Option Value
  closed_value names (Leaf x) = None
  closed_value names (Node f ts) = root_value names (Node f ts) f (closed_values names ts)

  pub closed_values : List Named → Trees ℕ Sym → Option (List Value)
  closed_values names none = Some []
  closed_values names (more t ts) = option_and_then (λ v. option_map (λ vs. v ∷ vs) (closed_values names ts)) (closed_value names t)

-- the number of the first item that passes the test
abbrev pub first_number : {A : Type 0} → (A → Bool) → List A → Option ℕ
first_number test items = option_map (λ item. item.0) (find (λ item. test item.1) (enumerate_from 1 items))

-- the first place of the term's value among the known ones
abbrev pub place_in : State → Term → Option ℕ
place_in st t = option_and_then (λ v. first_number (same_value v) st.configuration.known) (closed_value st.names t)

-- a place, or places, and the state in which they are such
abbrev pub Placed : Type 0 → Type 0
Placed A = Option (A × State)

-- a step that makes a value known, and the place that it gets
abbrev pub made_known : Protocol → Step → State → Placed ℕ
made_known P step st = option_map (λ next. (length st.configuration.known + 1, next)) (take_step P step st)

-- the value is that of the term
abbrev pub with_name : Term → Value → State → State
with_name t v st = record st { names = st.names ++ record { term = t; value = v } ∷ [] }

-- the name of the attacker that was made last is that of the term
abbrev pub names_it : ℕ → Term → ℕ × State → ℕ × State
names_it number t made = (made.0, with_name t (Leaf (AttackerName number)) made.1)

-- how a term gets a place that has none: an own name of the attacker is made, and data is built of its parts
abbrev pub placed_root : Protocol → Term → Sym → (State → Placed (List ℕ)) → State → Placed ℕ
placed_root P t (Data f) parts st = option_and_then (λ ks. made_known P (Build f ks.0) ks.1) (parts st)
placed_root P t (Tuple n) parts st = option_and_then (λ ks. made_known P (Build 0 ks.0) ks.1) (parts st)
placed_root P t Attacker parts st = option_map (names_it st.configuration.next t) (made_known P Fresh st)
placed_root P t other parts st = None

abbrev pub or_else : {A : Type 0} → Option A → (Unit {0} → Option A) → Option A
or_else (Some x) other = Some x
or_else None other = other tt

-- the place of a closed term: the first known place of its value, or else the one that it gets
unfoldable mutual
  pub placed : Protocol → Term → State → Placed ℕ
  placed P (Leaf x) st = None
  placed P (Node f ts) st = or_else (option_map (λ k. (k, st)) (place_in st (Node f ts))) (λ u. placed_root P (Node f ts) f (row_placed P ts) st)

  pub row_placed : Protocol → Trees ℕ Sym → State → Placed (List ℕ)
  row_placed P none st = Some ([], st)
  row_placed P (more t ts) st =
      option_and_then (λ first. option_map (λ others. (first.0 ∷ others.0, others.1)) (row_placed P ts first.1)) (placed P t st)
