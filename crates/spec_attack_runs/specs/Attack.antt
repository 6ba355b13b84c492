-- Attacks: the run that the instances of an unsatisfied clause are compiled to, where it violates the query.
use Rattle.std.specs.Prelude.{◌≡◌, ℕ, zero, suc, ◌+◌, ◌≤◌, nat_eq, List, [], ◌∷◌, ◌++◌, length, take, Option, None, Some, option_and_then, option_map, flat_map, filter}
use Rattle.spec_trees.specs.Tree.{trees}
use Rattle.spec_calculus.specs.Syntax.{Query, Protocol}
use Rattle.spec_calculus.specs.Points.{greatest_phase}
use Rattle.spec_calculus.specs.Runs.{Configuration, Step, Build, Reduce, run}
use Rattle.spec_calculus.specs.Secrecy.{IsViolated}
use Rattle.spec_terms.specs.Term.{Term}
use Rattle.spec_clauses.specs.Fact.{Clause, terms_of}
use Rattle.spec_saturation.specs.Key.{Entry}
use Rattle.spec_attack_runs.specs.Source.{Action, Idle, Builds, Reduces, Reaches, Source, stage_of}
use Rattle.spec_attack_runs.specs.Gathered.{AreSources}
use Rattle.spec_attack_runs.specs.Instance.{ComesFrom}
use Rattle.spec_attack_runs.specs.Compiling.{State, start_state, take_step, row_placed}
use Rattle.spec_attack_runs.specs.Walking.{start_walk, walked}

-- the most instances, and the most steps, of which an attack is told
abbrev pub most_instances : ℕ
most_instances = 100000

abbrev pub most_steps : ℕ
most_steps = 100000

-- the terms of the hypotheses
abbrev pub supposed : Clause Term → List Term
supposed c = flat_map terms_of c.hypotheses

-- what an instance adds to the run
abbrev pub acted : Protocol → List Term → Action → State → Option State
acted P terms Idle st = Some st
acted P terms (Builds f) st = option_and_then (λ ks. take_step P (Build f ks.0) ks.1) (row_placed P (trees terms) st)
acted P terms (Reduces d r) st = option_and_then (λ ks. take_step P (Reduce d r ks.0) ks.1) (row_placed P (trees terms) st)
acted P terms (Reaches way) st = walked P P.main 1 (start_walk way) st

abbrev pub compiled : Protocol → Source → State → Option State
compiled P instance st = acted P (supposed instance.raw) instance.action st

-- what instances add, one after another
abbrev pub all_compiled : Protocol → List Source → State → Option State
all_compiled P [] st = Some st
all_compiled P (instance ∷ instances) st = option_and_then (all_compiled P instances) (compiled P instance st)

-- the instances of so many phases from one on, those of each phase in their order
abbrev pub in_phases : ℕ → ℕ → List Source → List Source
in_phases phase zero instances = []
in_phases phase (suc count) instances = filter (λ i. nat_eq (stage_of i) phase) instances ++ in_phases (phase + 1) count instances

abbrev pub by_phase : Protocol → List Source → List Source
by_phase P instances = in_phases 0 (suc (greatest_phase P.main)) instances

-- the steps that instances are compiled to
abbrev pub compiled_steps : Protocol → List Source → Option (List Step)
compiled_steps P instances = option_map (λ st. st.steps) (all_compiled P (by_phase P instances) (start_state P))

-- The steps are what the entry of that number is compiled to.
pub record IsCompiled (P : Protocol) (q : Query) (log : List Entry) (number : ℕ) (steps : List Step) : Type 0 where
  pub sources : List Source
  pub instances : List Source
  pub are_sources : AreSources P q sources
  pub come : ComesFrom sources log number instances
  pub few : length instances ≤ most_instances
  pub compiles : compiled_steps P instances ≡ Some steps
  pub short : length steps ≤ most_steps

-- a beginning of the run ends in a violation of the query
pub record Violates (P : Protocol) (q : Query) (steps : List Step) : Type 0 where
  pub count : ℕ
  pub configuration : Configuration
  pub runs : run P (take count steps) ≡ Some configuration
  pub violated : IsViolated q configuration

-- the run is an attack on the query, told by the entry of that number
pub record IsAttack (P : Protocol) (q : Query) (log : List Entry) (number : ℕ) (steps : List Step) : Type 0 where
  pub compiled : IsCompiled P q log number steps
  pub violates : Violates P q steps

-- what is told of the entry: the attack, or that it tells none
abbrev pub Reconstructed : Protocol → Query → List Entry → ℕ → Option (List Step) → Type 0
Reconstructed P q log number (Some steps) = IsAttack P q log number steps
Reconstructed P q log number None = (steps : List Step) → IsAttack P q log number steps → ⊥
