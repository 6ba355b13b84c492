-- What a thread does where it stands.
use Rattle.std.proofs.Common.{◌≡◌, ℕ, suc, ◌<◌, Bool, true, false, not, nat_eq, cond, List, [], ◌∷◌, ◌++◌, length, filter, Option, None, Some, option_and_then, refl, sym, ap, ◌∙◌}
use Rattle.std.specs.List.{find}
use Rattle.std.specs.Option.{option_map_or}
use Rattle.spec_calculus.specs.Syntax.{Protocol}
use Rattle.spec_calculus.specs.Values.{Value}
use Rattle.spec_calculus.specs.Runs.{Configuration, Hear, Say, Pass, Next, acting, knows}
use Rattle.spec_calculus.specs.Refusals.{at_output, at_input}
use Rattle.spec_terms.specs.Term.{Term}
use Rattle.spec_attack_runs.specs.Compiling.{State, take_step, placed}
use Rattle.spec_attack_runs.specs.Walking.{Walk, stands_at, acts_at, sends, offers, passed, hears_on, receives, begin}
use Rattle.spec_attack_runs.specs.Attack.{most_steps}
use Rattle.attack_state.specs.declared.state.State.{State as MadeState}
use Rattle.attack_state.specs.Outcomes.{IsStuck, IsDoneBy}
use Rattle.attack_compiling.specs.Walks.{said}
use Rattle.attack_state.proofs.Outcomes.{nothing_stuck, stuck_then}
use Rattle.attack_compiling.proofs.Behind.{no_fewer_begin, stuck_with, acts_behind}
use Rattle.attack_compiling.proofs.SoFar.{BegunSoFar}

module _ (P : Protocol) (point : ℕ) (walk : Walk) where
  -- an output
  sending : (st : State) (c : Configuration) (b heard : Bool) → c ≡ st.configuration → b ≡ stands_at c walk.thread point → heard ≡ option_map_or (knows c) (acting P c walk.thread at_output) false
      → sends P point walk st ≡ cond b (cond heard (take_step P (Hear walk.thread) st) (Some (record st { waiting = st.waiting ++ walk.thread ∷ [] }))) None
  sending st c b heard e test hears =
      let waits : Option State = Some (record st { waiting = st.waiting ++ walk.thread ∷ [] }) in
      let known : heard ≡ option_map_or (knows st.configuration) (acting P st.configuration walk.thread at_output) false = hears ∙ ap (λ (d : Configuration). option_map_or (knows d) (acting P d walk.thread at_output) false) e in
      ap (λ (t : Bool). cond t (cond (option_map_or (knows st.configuration) (acting P st.configuration walk.thread at_output) false) (take_step P (Hear walk.thread) st) waits) None) (sym (test ∙ ap (λ (d : Configuration). stands_at d walk.thread point) e))
      ∙ ap (λ (t : Bool). cond b (cond t (take_step P (Hear walk.thread) st) waits) None) (sym known)

  pub sends_not : (st : State) (c : Configuration) (b heard : Bool) → c ≡ st.configuration → b ≡ stands_at c walk.thread point → heard ≡ option_map_or (knows c) (acting P c walk.thread at_output) false → b ≡ false → IsStuck (sends P point walk) st
  sends_not st c b heard e test hears is =
      nothing_stuck (sends P point walk st) (sending st c b heard e test hears ∙ ap (λ (t : Bool). cond t (cond heard (take_step P (Hear walk.thread) st) (Some (record st { waiting = st.waiting ++ walk.thread ∷ [] }))) None) is)

  pub sends_heard : (st : State) (c : Configuration) (b heard : Bool) → c ≡ st.configuration → b ≡ stands_at c walk.thread point → heard ≡ option_map_or (knows c) (acting P c walk.thread at_output) false → b ≡ true → heard ≡ true → sends P point walk st ≡ take_step P (Hear walk.thread) st
  sends_heard st c b heard e test hears is known =
      sending st c b heard e test hears ∙ (ap (λ (t : Bool). cond t (cond heard (take_step P (Hear walk.thread) st) (Some (record st { waiting = st.waiting ++ walk.thread ∷ [] }))) None) is
      ∙ ap (λ (t : Bool). cond t (take_step P (Hear walk.thread) st) (Some (record st { waiting = st.waiting ++ walk.thread ∷ [] }))) known)

  pub sends_waits : (st : State) (c : Configuration) (b heard : Bool) → c ≡ st.configuration → b ≡ stands_at c walk.thread point → heard ≡ option_map_or (knows c) (acting P c walk.thread at_output) false → b ≡ true → heard ≡ false
      → sends P point walk st ≡ Some (record st { waiting = st.waiting ++ walk.thread ∷ [] })
  sends_waits st c b heard e test hears is known =
      sending st c b heard e test hears ∙ (ap (λ (t : Bool). cond t (cond heard (take_step P (Hear walk.thread) st) (Some (record st { waiting = st.waiting ++ walk.thread ∷ [] }))) None) is
      ∙ ap (λ (t : Bool). cond t (take_step P (Hear walk.thread) st) (Some (record st { waiting = st.waiting ++ walk.thread ∷ [] }))) known)

  -- a message that is said
  pub said_stuck : (message : Term) (st : State) → ((k : ℕ) (s : State) → placed P message st ≡ Some (k, s) → most_steps < length s.steps) → IsStuck (said P point walk message) st
  said_stuck message st stuck = stuck_with P (placed P message st) (λ (k : ℕ × State). acts_at P point walk (Say walk.thread k.0) k.1) (acts_behind P point walk (λ k. Say walk.thread k)) stuck

  pub said_behind : (message : Term) (st s : State) (k : ℕ) → placed P message st ≡ Some (k, s) → said P point walk message st ≡ acts_at P point walk (Say walk.thread k) s
  said_behind message st s k e = ap (option_and_then (λ (k : ℕ × State). acts_at P point walk (Say walk.thread k.0) k.1)) e

  -- how an input is told its message
  receiving : (message : Term) (st : State) (c : Configuration) (o : Option Value) → c ≡ st.configuration → o ≡ acting P c walk.thread at_input
      → receives P point walk message st ≡ option_and_then (λ channel. hears_on P point walk message st channel (knows c channel)) o
  receiving message st c o e is =
      ap (option_and_then (λ channel. hears_on P point walk message st channel (knows st.configuration channel))) (sym (is ∙ ap (λ (d : Configuration). acting P d walk.thread at_input) e))
      ∙ ap (λ (d : Configuration). option_and_then (λ channel. hears_on P point walk message st channel (knows d channel)) o) (sym e)

  -- on a channel that is known
  pub receives_said : (message : Term) (st : State) (c : Configuration) → c ≡ st.configuration → true ≡ option_map_or (knows c) (acting P c walk.thread at_input) false → receives P point walk message st ≡ said P point walk message st
  receives_said message st c e known = go (acting P c walk.thread at_input) refl known
    where
      go : (o : Option Value) → o ≡ acting P c walk.thread at_input → true ≡ option_map_or (knows c) o false → receives P point walk message st ≡ said P point walk message st
      go None is t = cc
      go (Some channel) is t = receiving message st c (Some channel) e is ∙ ap (hears_on P point walk message st channel) (sym t)

  -- a message that is passed
  pub passed_by : (channel message : Value) (st : State) (c : Configuration) (i : ℕ) → c ≡ st.configuration → Some i ≡ find (offers P c channel message) st.waiting
      → passed P point walk channel message st ≡ acts_at P point walk (Pass i walk.thread) (record st { waiting = filter (λ j. not (nat_eq i j)) st.waiting })
  passed_by channel message st c i e is =
      ap (option_and_then (λ (j : ℕ). acts_at P point walk (Pass j walk.thread) (record st { waiting = filter (λ k. not (nat_eq j k)) st.waiting }))) (sym (is ∙ ap (λ (d : Configuration). find (offers P d channel message) st.waiting) e))

-- phases that begin
module _ (P : Protocol) (all : List Term) (count : ℕ) (st : State) where
  pub begun_more : (left less : ℕ) (ids new : MadeState) → left ≡ suc less → (so_far : BegunSoFar P all count left st ids) → IsDoneBy (take_step P Next) so_far.next all new → BegunSoFar P all count less st new
  begun_more left less ids new e so_far step = record {
    next = step.next;
    is = step.is;
    same = so_far.same ∙ (ap (λ (n : ℕ). begin P n so_far.next) e ∙ ap (option_and_then (begin P less)) step.gives);
  }

  pub begun_stop : (left less : ℕ) (ids : MadeState) → left ≡ suc less → (so_far : BegunSoFar P all count left st ids) → IsStuck (take_step P Next) so_far.next → IsStuck (begin P count) st
  begun_stop left less ids e so_far stuck =
      λ next is. stuck_then (begin P less) (take_step P Next so_far.next) (no_fewer_begin P less) stuck next (ap (λ (n : ℕ). begin P n so_far.next) (sym e) ∙ (sym so_far.same ∙ is))
