-- What is done at the node where a walk stands, by the form of the process there.
use Rattle.std.proofs.Common.{◌≡◌, ℕ, suc, ◌+◌, ◌<◌, ◌≤◌, Bool, List, length, get_or, slice_get, take, drop, map, Option, None, Some, Result, IfOk, sym, ap, ◌∙◌}
use Rattle.std.proofs.lemmas.List.{take-map, drop-map}
use Rattle.spec_terms.specs.Term.{Term}
use Rattle.term_tree.specs.Bank.{tree_at}
use Rattle.term_tree.specs.declared.bank.Id.{Id}
use Rattle.pi_tree.specs.declared.syntax.Process.{Process as MadeProcess}
use Rattle.pi_tree.specs.Processes.{process_of}
use Rattle.spec_attack_runs.specs.Compiling.{State}
use Rattle.spec_attack_runs.specs.Walking.{next_of}
use Rattle.attack_state.specs.declared.state.State.{State as MadeState}
use Rattle.attack_state.specs.Outcomes.{IsStuck, Does}
use Rattle.attack_state.proofs.Outcomes.{nothing_stuck}
use Rattle.attack_compiling.specs.declared.walking.Route.{Route}
use Rattle.attack_compiling.specs.declared.walking.Walk.{Walk}
use Rattle.attack_compiling.specs.Walks.{protocol_at, walk_of, act_at}
use Rattle.attack_compiling.proofs.Acted.{result_as, ahead_none, ahead_some}
use Rattle.attack_compiling.proofs.Ways.{mapped_ahead, mapped_past}

module _ (route : Route) (walk : Walk) (all : List Term) (st : State) (process : MadeProcess) (is : walk.process.now ≡ process) where
  there : act_at (protocol_at route) (process_of walk.process.now) walk.point (walk_of all route walk) st ≡ act_at (protocol_at route) (process_of process) walk.point (walk_of all route walk) st
  there = ap (λ (p : MadeProcess). act_at (protocol_at route) (process_of p) walk.point (walk_of all route walk) st) is

  -- it is done as this is
  pub node_as : {E : Type 0} (now : List Term) (f : State → Option State) (s : State) → act_at (protocol_at route) (process_of process) walk.point (walk_of all route walk) st ≡ f s → (ids : MadeState) (r : Result Bool E) → IfOk r (Does f s now ids)
      → IfOk r (Does (act_at (protocol_at route) (process_of walk.process.now) walk.point (walk_of all route walk)) st now ids)
  node_as now f s same ids r h = result_as f (act_at (protocol_at route) (process_of walk.process.now) walk.point (walk_of all route walk)) s st (there ∙ same) now ids r h

  -- or it can't be done
  pub node_stuck : act_at (protocol_at route) (process_of process) walk.point (walk_of all route walk) st ≡ None → IsStuck (act_at (protocol_at route) (process_of walk.process.now) walk.point (walk_of all route walk)) st
  node_stuck none = nothing_stuck (act_at (protocol_at route) (process_of walk.process.now) walk.point (walk_of all route walk) st) (there ∙ none)

-- what comes next of a list under a function, or of a list
module _ {A B : Type 0} (f : A → B) (xs : List A) (i : ℕ) (go : B → List B → Option State) where
  pub next_mapped : (x : A) → x ≡ get_or xs i x → i < length xs → next_of (drop i (map f xs)) go ≡ go (f x) (drop (i + 1) (map f xs))
  next_mapped x is within = ap (λ (l : List B). next_of l go) (mapped_ahead f xs i x is within)

  pub next_past : length xs ≤ i → next_of (drop i (map f xs)) go ≡ None
  next_past past = ap (λ (l : List B). next_of l go) (mapped_past f xs i past)

module _ {A : Type 0} (xs : List A) (i : ℕ) (go : A → List A → Option State) where
  pub next_there : (x : A) → Some x ≡ slice_get xs i → next_of (drop i xs) go ≡ go x (drop (suc i) xs)
  next_there x e = ap (λ (l : List A). next_of l go) (ahead_some xs i x (sym e))

  pub next_lacking : None ≡ slice_get xs i → next_of (drop i xs) go ≡ None
  next_lacking e = ap (λ (l : List A). next_of l go) (ahead_none xs i (sym e))

-- the next so many terms
pub next_terms : (all : List Term) (ids : List Id) (i count : ℕ) → take count (drop i (map (tree_at all) ids)) ≡ map (tree_at all) (take count (drop i ids))
next_terms all ids i count = ap (take count) (drop-map (tree_at all) i ids) ∙ take-map (tree_at all) count (drop i ids)
