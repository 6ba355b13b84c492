-- A node is done once.
use Rattle.std.proofs.Common.{◌≡◌, ℕ, ◌+◌, ◌<◌, Bool, true, false, cond, List, [], ◌∷◌, ◌++◌, length, Option, None, Some, option_and_then, option_map, refl, sym, ap, ◌∙◌, subst}
use Rattle.std.specs.Borrow.{Bor}
use Rattle.std.specs.List.{find}
use Rattle.spec_calculus.specs.Syntax.{Process, Protocol}
use Rattle.spec_calculus.proofs.Items.{of_map}
use Rattle.spec_terms.specs.Term.{Term}
use Rattle.term_tree.specs.Bank.{Grows}
use Rattle.spec_attack_runs.specs.Compiling.{Done, State}
use Rattle.spec_attack_runs.specs.Walking.{Walk, same_place, same_deed, noted, unless_done, once}
use Rattle.spec_attack_runs.specs.Attack.{most_steps}
use Rattle.attack_state.specs.declared.done.Done.{Done as MadeDone}
use Rattle.attack_state.specs.declared.state.State.{State as MadeState}
use Rattle.attack_state.specs.States.{NamesDone, FindsDone, IsRun}
use Rattle.attack_state.proofs.Named.{done-grow}
use Rattle.attack_compiling.specs.declared.walking.Passed.{Passed}
use Rattle.attack_compiling.specs.declared.walking.Passed.TheVariants as went
use Rattle.attack_compiling.specs.Walks.{act_at, node_at, once_at, NamesNode, IsPassedBy, Passes, PassesOn}

-- the node that is named, and the node that is found
pub record NodeIs (all : List Term) (ids : MadeDone) (o : Option Done) : Type 0 where
  pub node : Done
  pub is : o ≡ Some node
  pub names : NamesDone all ids node

pub node_named : (all : List Term) (ids : MadeDone) (o : Option Done) → NamesNode all (Some ids) o → NodeIs all ids o
node_named all ids None h = absurd h
node_named all ids (Some node) h = record { node = node; is = refl; names = h }

pub node_found : (all : List Term) (ids : Bor MadeDone) (o : Option Done) → FindsDone all (Some ids) o → NodeIs all ids.now o
node_found all ids None h = absurd h
node_found all ids (Some node) h = record { node = node; is = refl; names = h }

-- the same of what was told of a node
pub node_there : (all : List Term) (found : Option MadeDone) (ids : MadeDone) (o : Option Done) → found ≡ Some ids → NamesNode all found o → NodeIs all ids o
node_there all found ids o e h = node_named all ids o (subst (λ (f : Option MadeDone). NamesNode all f o) e h)

pub node_lacking : (all : List Term) (found : Option MadeDone) (o : Option Done) → found ≡ None → NamesNode all found o → o ≡ None
node_lacking all found o e h = subst (λ (f : Option MadeDone). NamesNode all f o) e h

pub node_before : (all : List Term) (found : Option (Bor MadeDone)) (ids : Bor MadeDone) (o : Option Done) → found ≡ Some ids → FindsDone all found o → NodeIs all ids.now o
node_before all found ids o e h = node_found all ids o (subst (λ (f : Option (Bor MadeDone)). FindsDone all f o) e h)

pub node_first : (all : List Term) (found : Option (Bor MadeDone)) (o : Option Done) → found ≡ None → FindsDone all found o → o ≡ None
node_first all found o e h = subst (λ (f : Option (Bor MadeDone)). FindsDone all f o) e h

-- how a node went
module _ (f : State → Option (Done × State)) (st : State) (all : List Term) (ids : MadeState) (passed : Passed) where
  pub passed_stuck : passed ≡ went.Stuck → Passes f st all ids passed → (node : Done) (next : State) → f st ≡ Some (node, next) → most_steps < length next.steps
  passed_stuck e h = subst (λ (p : Passed). Passes f st all ids p) e h

  pub passed_done : (other : ℕ) → passed ≡ went.Done other → Passes f st all ids passed → IsPassedBy f st all ids other
  passed_done other e h = subst (λ (p : Passed). Passes f st all ids p) e h

pub passed_run : (P : Protocol) (ids : MadeState) (passed : Passed) (other : ℕ) → passed ≡ went.Done other → PassesOn P ids passed → IsRun P ids
passed_run P ids passed other e h = subst (λ (p : Passed). PassesOn P ids p) e h

-- a node in a bank that grew
pub names_done-grow : (a b : List Term) (ids : MadeDone) (node : Done) → Grows a b → NamesDone a ids node → NamesDone b ids node
names_done-grow a b ids node grows h = (done-grow a b (ids ∷ []) (node ∷ []) grows (h, tt)).0

module _ (P : Protocol) (process : Process) (point : ℕ) (walk : Walk) (st : State) where
  there : (n : Done) → node_at process point walk (length st.configuration.threads + 1) ≡ Some n → once_at P process point walk st ≡ once st n (act_at P process point walk st)
  there n e = ap (option_and_then (λ (node : Done). once st node (act_at P process point walk st))) e

  seen : (n : Done) (o : Option Done) → find (same_place n) st.done ≡ o → once st n (act_at P process point walk st) ≡ unless_done st n (act_at P process point walk st) o
  unfolding once
  seen n o e = ap (unless_done st n (act_at P process point walk st)) e

  -- the way doesn't tell how
  pub passes_nowhere : node_at process point walk (length st.configuration.threads + 1) ≡ None → once_at P process point walk st ≡ None
  passes_nowhere e = ap (option_and_then (λ (node : Done). once st node (act_at P process point walk st))) e

  -- it was done before, the same or otherwise
  pub passes_before : (n d : Done) → node_at process point walk (length st.configuration.threads + 1) ≡ Some n → find (same_place n) st.done ≡ Some d → same_deed n d ≡ true → once_at P process point walk st ≡ Some (d, st)
  passes_before n d e f same = there n e ∙ (seen n (Some d) f ∙ ap (λ (b : Bool). cond b (Some (d, st)) None) same)

  pub passes_conflict : (n d : Done) → node_at process point walk (length st.configuration.threads + 1) ≡ Some n → find (same_place n) st.done ≡ Some d → same_deed n d ≡ false → once_at P process point walk st ≡ None
  passes_conflict n d e f same = there n e ∙ (seen n (Some d) f ∙ ap (λ (b : Bool). cond b (Some (d, st)) None) same)

  -- it is done now
  pub passes_now : (n : Done) (s : State) → node_at process point walk (length st.configuration.threads + 1) ≡ Some n → find (same_place n) st.done ≡ None → act_at P process point walk st ≡ Some s
      → once_at P process point walk st ≡ Some (n, record s { done = s.done ++ n ∷ [] })
  passes_now n s e f did = there n e ∙ (seen n None f ∙ ap (option_map (noted n)) did)

  pub passes_stuck : (n : Done) → node_at process point walk (length st.configuration.threads + 1) ≡ Some n → find (same_place n) st.done ≡ None → ((s : State) → act_at P process point walk st ≡ Some s → most_steps < length s.steps)
      → (node : Done) (next : State) → once_at P process point walk st ≡ Some (node, next) → most_steps < length next.steps
  passes_stuck n e f stuck node next did =
      let through : option_map (noted n) (act_at P process point walk st) ≡ Some (node, next) = sym (there n e ∙ seen n None f) ∙ did in
      let parts = of_map (noted n) (act_at P process point walk st) (node, next) through in
      let same : record parts.0 { done = parts.0.done ++ n ∷ [] } ≡ next = ap (λ (x : Done × State). x.1) parts.2 in
      subst (λ (s : State). most_steps < length s.steps) same (stuck parts.0 parts.1)

pub never_passes : (o : Option (Done × State)) → o ≡ None → (node : Done) (next : State) → o ≡ Some (node, next) → most_steps < length next.steps
never_passes o e node next f = cc
