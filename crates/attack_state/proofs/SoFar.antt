-- How far the loop has come that finds places.
use Rattle.std.proofs.Common.{◌≡◌, ℕ, List, ◌++◌, option_map}
use Rattle.spec_trees.specs.Tree.{Trees}
use Rattle.spec_calculus.specs.Syntax.{Protocol}
use Rattle.spec_terms.specs.Term.{Sym, Term}
use Rattle.spec_attack_runs.specs.Compiling.{State, row_placed}
use Rattle.attack_state.specs.declared.state.State.{State as MadeState}
use Rattle.attack_state.specs.States.{IsState}

-- these places stand before the others
abbrev pub front : List ℕ → List ℕ × State → List ℕ × State
front places x = (places ++ x.0, x.1)

-- terms that got these places, and the rest
pub record PlacedSoFar (P : Protocol) (all : List Term) (ts rest : Trees ℕ Sym) (st : State) (places : List ℕ) (ids : MadeState) : Type 0 where
  pub next : State
  pub is : IsState all ids next
  pub same : row_placed P ts st ≡ option_map (front places) (row_placed P rest next)
