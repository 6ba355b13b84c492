-- How far the loops have come that compile a run.
use Rattle.std.proofs.Common.{◌≡◌, ℕ, ◌-◌, suc, List}
use Rattle.spec_calculus.specs.Syntax.{Protocol}
use Rattle.spec_calculus.specs.Points.{greatest_phase}
use Rattle.spec_terms.specs.Term.{Term}
use Rattle.pi_tree.specs.Processes.{process_of}
use Rattle.spec_attack_runs.specs.Source.{Source}
use Rattle.spec_attack_runs.specs.Compiling.{State}
use Rattle.spec_attack_runs.specs.Walking.{begin, start_walk, walked}
use Rattle.spec_attack_runs.specs.Attack.{all_compiled, in_phases}
use Rattle.attack_state.specs.declared.state.State.{State as MadeState}
use Rattle.attack_compiling.specs.declared.walking.Route.{Route}
use Rattle.attack_compiling.specs.declared.walking.Walk.{Walk}
use Rattle.attack_compiling.specs.Compiled.{compile_in}
use Rattle.attack_state.specs.States.{IsState}
use Rattle.attack_compiling.specs.Walks.{protocol_at, way_of, walk_of}

-- phases that began, and those that are left
pub record BegunSoFar (P : Protocol) (all : List Term) (count left : ℕ) (st : State) (ids : MadeState) : Type 0 where
  pub next : State
  pub is : IsState all ids next
  pub same : begin P count st ≡ begin P left next

-- a walk that came to a node
pub record WalkedSoFar (old now : List Term) (route : Route) (walk : Walk) (st : State) (ids : MadeState) : Type 0 where
  pub next : State
  pub is : IsState now ids next
  pub same : walked (protocol_at route) (protocol_at route).main 1 (start_walk (way_of old route)) st ≡ walked (protocol_at route) (process_of walk.process.now) walk.point (walk_of now route walk) next

-- instances of a phase that were compiled, and the rest
pub record CompiledSoFar (P : Protocol) (all : List Term) (phase : ℕ) (instances rest : List Source) (st : State) (ids : MadeState) : Type 0 where
  pub next : State
  pub is : IsState all ids next
  pub same : compile_in P phase instances st ≡ compile_in P phase rest next

-- phases that were compiled, and the rest
pub record PhasesSoFar (P : Protocol) (all : List Term) (phase : ℕ) (instances : List Source) (st : State) (ids : MadeState) : Type 0 where
  pub next : State
  pub is : IsState all ids next
  pub same : all_compiled P (in_phases 0 (suc (greatest_phase P.main)) instances) st ≡ all_compiled P (in_phases phase (suc (greatest_phase P.main) - phase) instances) next
