-- A part of the compilation is done, or it is stuck, as the part is that it comes to; and names that are made.
use Rattle.std.proofs.Common.{◌≡◌, ℕ, zero, suc, ◌<◌, Bool, true, false, List, [], ◌∷◌, length, slice_get, drop, Option, None, Some, Result, Ok, Err, IfOk, option_map, refl, sym, ap, ◌∙◌, subst}
use Rattle.spec_trees.specs.Tree.{Leaf}
use Rattle.spec_calculus.specs.Syntax.{Protocol}
use Rattle.spec_calculus.specs.Values.{MadeName}
use Rattle.spec_calculus.specs.Runs.{Make}
use Rattle.spec_calculus.proofs.Items.{of_map}
use Rattle.spec_terms.specs.Term.{Term}
use Rattle.spec_translation.specs.Conversion.{name_term}
use Rattle.spec_attack_runs.specs.Compiling.{State, with_name}
use Rattle.spec_attack_runs.specs.Walking.{Walk, acts_at, makes}
use Rattle.spec_attack_runs.specs.Attack.{most_steps}
use Rattle.attack_state.specs.declared.state.State.{State as MadeState}
use Rattle.attack_state.specs.Outcomes.{IsStuck, IsDoneBy, Does}

-- what a part does is what another does that comes to it
module _ (f g : State → Option State) (s st : State) (same : g st ≡ f s) (all : List Term) (ids : MadeState) where
  pub does_as : (b : Bool) → Does f s all ids b → Does g st all ids b
  does_as true h = record { next = h.next; gives = same ∙ h.gives; is = h.is }
  does_as false h = λ next e. h next (sym same ∙ e)

  pub result_as : {E : Type 0} (r : Result Bool E) → IfOk r (Does f s all ids) → IfOk r (Does g st all ids)
  result_as (Ok b) h = does_as b h
  result_as (Err e) h = tt

-- where it was told that it is done, and where not
module _ (f : State → Option State) (st : State) (all : List Term) (ids : MadeState) (b : Bool) where
  pub done_where : b ≡ true → Does f st all ids b → IsDoneBy f st all ids
  done_where e h = subst (λ (t : Bool). Does f st all ids t) e h

  pub stuck_where : b ≡ false → Does f st all ids b → IsStuck f st
  stuck_where e h = subst (λ (t : Bool). Does f st all ids t) e h

-- the items of a list from an index on
pub ahead_none : {A : Type 0} (xs : List A) (i : ℕ) → slice_get xs i ≡ None → drop i xs ≡ []
ahead_none [] zero e = refl
ahead_none [] (suc i) e = refl
ahead_none (x ∷ xs) zero e = cc
ahead_none (x ∷ xs) (suc i) e = ahead_none xs i e

pub ahead_some : {A : Type 0} (xs : List A) (i : ℕ) (x : A) → slice_get xs i ≡ Some x → drop i xs ≡ x ∷ drop (suc i) xs
ahead_some [] zero x e = cc
ahead_some [] (suc i) x e = cc
ahead_some {A} (y ∷ xs) zero x e = let same : y ≡ x = cc in ap (λ (z : A). z ∷ xs) same
ahead_some (y ∷ xs) (suc i) x e = ahead_some xs i x e

module _ (P : Protocol) (point : ℕ) (walk : Walk) where
  -- a name that is made
  pub made : (st s : State) → acts_at P point walk (Make walk.thread) st ≡ Some s
      → makes P point walk st ≡ Some (with_name (name_term point walk.received walk.copied) (Leaf (MadeName point st.configuration.next)) s)
  made st s e = ap (option_map (with_name (name_term point walk.received walk.copied) (Leaf (MadeName point st.configuration.next)))) e

  pub made_not : (st : State) → IsStuck (acts_at P point walk (Make walk.thread)) st → IsStuck (makes P point walk) st
  made_not st stuck = λ next e.
      let parts = of_map (with_name (name_term point walk.received walk.copied) (Leaf (MadeName point st.configuration.next))) (acts_at P point walk (Make walk.thread) st) next e in
      subst (λ (s : State). most_steps < length s.steps) parts.2 (stuck parts.0 parts.1)
