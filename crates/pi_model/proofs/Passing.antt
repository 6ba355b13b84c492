-- When an output meets an input, and for which cause it is refused.
use Rattle.std.proofs.Common.{◌≡◌, ℕ, ◌+◌, Bool, true, false, not, ◌||◌, cond, List, [], ◌∷◌, Option, None, Some, is_none, refl, sym, ap, subst, ◌∙◌}
use Rattle.std.specs.List.{list_any}
use Rattle.std.specs.Option.{option_map_or}
use Rattle.spec_calculus.specs.Syntax.{Term, Pattern, Process, Output, Input, Protocol}
use Rattle.spec_calculus.specs.Values.{Value, Environment, same_value, value_of, values_of}
use Rattle.spec_calculus.specs.Matching.{matched}
use Rattle.spec_calculus.specs.Runs.{At, Ended, Configuration, Pass, acting, goes_on, received, after_receipt, after_pass}
use Rattle.spec_calculus.specs.Refusals as cause
use Rattle.spec_calculus.specs.Refusals.{Refusal, Cause, first_cause, where_true, at_output, at_input, no_thread, refusal}
use Rattle.spec_calculus.specs.Limits.{is_large, terms_at, listed, written, evaluated}
use Rattle.pi_model.specs.declared.errors.StepError.{StepError}
use Rattle.pi_model.specs.declared.errors.StepError.TheVariants.{NoThread, WrongForm, UnknownChannel, ChannelsDiffer, NoKnowledge, NoRule, NotFailing, NotPublic, NoEntry, Large}
use Rattle.pi_configurations.specs.Moves.{advanced}
use Rattle.pi_model.specs.Plans.{IsPossible, IsRefused, Stands, StandsNowhere}
use Rattle.spec_calculus.proofs.Equality.{same_value-sound, same_value-refl}
use Rattle.term_values.proofs.Room.{any-append}
use Rattle.pi_model.proofs.ThreadSteps.{acting_stands, acting_thread, listed_stands, advanced_stands, possible, refused, large}

-- the causes, from whether a thread is missing and from what the threads show
abbrev causes : Bool → Option Value → Option Value → List Cause
causes missing sent taken =
    where_true cause.NoThread missing
    ∷ where_true cause.WrongForm (is_none sent || is_none taken)
    ∷ where_true cause.ChannelsDiffer (not (option_map_or (λ channel. option_map_or (same_value channel) taken false) sent false)) ∷ []

-- the order of two values that are compared
same-turned : (v w : Value) → same_value v w ≡ true → same_value w v ≡ true
same-turned v w h = let e : v ≡ w = same_value-sound v w h in subst (λ (x : Value). same_value x v ≡ true) e (same_value-refl v)

turned : (v w : Value) (b : Bool) → same_value v w ≡ b → same_value w v ≡ b
turned v w true h = same-turned v w h
turned v w false h = here (same_value w v) refl
  where
    here : (b : Bool) → same_value w v ≡ b → b ≡ false
    here true e = let bad : same_value v w ≡ true = same-turned w v e in cc
    here false e = refl

module _ (P : Protocol) (c : Configuration) (i j : ℕ) where
  pass-cause : (missing : Bool) (sent taken : Option Value) → (no_thread c i || no_thread c j) ≡ missing → acting P c i at_output ≡ sent → acting P c j at_input ≡ taken → refusal P c (Pass i j) ≡ first_cause (causes missing sent taken)
  pass-cause missing sent taken e f g =
      ap (λ b. first_cause (causes b (acting P c i at_output) (acting P c j at_input))) e
      ∙ (ap (λ o. first_cause (causes missing o (acting P c j at_input))) f ∙ ap (λ o. first_cause (causes missing sent o)) g)

  or_true : (a b : Bool) → b ≡ true → (a || b) ≡ true
  or_true true b h = refl
  or_true false b h = h

  pub pass-no_sender : no_thread c i ≡ true → IsRefused P c (Pass i j) cause.NoThread
  pass-no_sender h =
      refused P c (Pass i j) cause.NoThread (pass-cause true (acting P c i at_output) (acting P c j at_input) (ap (λ a. a || no_thread c j) h) refl refl)

  pub pass-no_receiver : no_thread c j ≡ true → IsRefused P c (Pass i j) cause.NoThread
  pass-no_receiver h =
      refused P c (Pass i j) cause.NoThread (pass-cause true (acting P c i at_output) (acting P c j at_input) (or_true (no_thread c i) (no_thread c j) h) refl refl)

  both_there : no_thread c i ≡ false → no_thread c j ≡ false → (no_thread c i || no_thread c j) ≡ false
  both_there h k = ap (λ a. a || no_thread c j) h ∙ k

  or_none : (a b : Bool) → b ≡ true → (a || b) ≡ true
  or_none a b h = or_true a b h

  wrong : (sent taken : Option Value) → (is_none sent || is_none taken) ≡ true → first_cause (causes false sent taken) ≡ Some cause.WrongForm
  wrong sent taken h = ap (λ b. first_cause (where_true cause.WrongForm b ∷ where_true cause.ChannelsDiffer (not (option_map_or (λ channel. option_map_or (same_value channel) taken false) sent false)) ∷ [])) h

  no_output : no_thread c i ≡ false → no_thread c j ≡ false → acting P c i at_output ≡ None → IsRefused P c (Pass i j) cause.WrongForm
  no_output h k e =
      refused P c (Pass i j) cause.WrongForm (pass-cause false None (acting P c j at_input) (both_there h k) e refl ∙ wrong None (acting P c j at_input) refl)

  no_input : no_thread c i ≡ false → no_thread c j ≡ false → acting P c j at_input ≡ None → IsRefused P c (Pass i j) cause.WrongForm
  no_input h k e =
      refused P c (Pass i j) cause.WrongForm (pass-cause false (acting P c i at_output) None (both_there h k) refl e ∙ wrong (acting P c i at_output) None (or_none (is_none (acting P c i at_output)) true refl))

  -- a thread that is there and stands nowhere has ended
  ended : {A : Type 0} (a : ℕ → Environment → Process → Option A) (k : ℕ) (e : StepError) → no_thread c k ≡ false → StandsNowhere c k e → acting P c k a ≡ None
  ended a k NoThread there h = let bad = ap is_none h in cc
  ended a k WrongForm there h = acting_thread P c a k (Some Ended) h
  ended a k UnknownChannel there h = absurd h
  ended a k ChannelsDiffer there h = absurd h
  ended a k NoKnowledge there h = absurd h
  ended a k NoRule there h = absurd h
  ended a k NotFailing there h = absurd h
  ended a k NotPublic there h = absurd h
  ended a k NoEntry there h = absurd h
  ended a k Large there h = absurd h

  pub pass-ended_sender : (e : StepError) → no_thread c i ≡ false → no_thread c j ≡ false → StandsNowhere c i e → IsRefused P c (Pass i j) cause.WrongForm
  pass-ended_sender e h k s = no_output h k (ended at_output i e h s)

  pub pass-ended_receiver : (e : StepError) → no_thread c i ≡ false → no_thread c j ≡ false → StandsNowhere c j e → IsRefused P c (Pass i j) cause.WrongForm
  pass-ended_receiver e h k s = no_input h k (ended at_input j e k s)

  there : (k p : ℕ) (s : Environment) (q : Process) → Stands P c k p s q → no_thread c k ≡ false
  there k p s q h = ap is_none h.thread

  -- both threads stand
  pub pass-no_output : (p r : ℕ) (s t : Environment) (q w : Process) → Stands P c i p s q → Stands P c j r t w → at_output p s q ≡ None → IsRefused P c (Pass i j) cause.WrongForm
  pass-no_output p r s t q w h k e = no_output (there i p s q h) (there j r t w k) (acting_stands P c at_output i p s q h ∙ e)

  pub pass-no_input : (p r : ℕ) (s t : Environment) (q w : Process) → Stands P c i p s q → Stands P c j r t w → at_input r t w ≡ None → IsRefused P c (Pass i j) cause.WrongForm
  pass-no_input p r s t q w h k e = no_input (there i p s q h) (there j r t w k) (acting_stands P c at_input j r t w k ∙ e)

  meeting : (p r : ℕ) (s t : Environment) (channel message on : Term) (pattern : Pattern) (next after : Process) (b : Bool) → Stands P c i p s (Output channel message next) → Stands P c j r t (Input on pattern after) → same_value (value_of s channel) (value_of t on) ≡ b → refusal P c (Pass i j) ≡ first_cause (where_true cause.ChannelsDiffer (not b) ∷ [])
  meeting p r s t channel message on pattern next after b h k e =
      pass-cause false (Some (value_of s channel)) (Some (value_of t on)) (both_there (there i p s (Output channel message next) h) (there j r t (Input on pattern after) k)) (acting_stands P c at_output i p s (Output channel message next) h) (acting_stands P c at_input j r t (Input on pattern after) k)
      ∙ ap (λ x. first_cause (where_true cause.ChannelsDiffer (not x) ∷ [])) e

  pub pass-differ : (p r : ℕ) (s t : Environment) (channel message on : Term) (pattern : Pattern) (next after : Process) → Stands P c i p s (Output channel message next) → Stands P c j r t (Input on pattern after) → same_value (value_of t on) (value_of s channel) ≡ false → IsRefused P c (Pass i j) cause.ChannelsDiffer
  pass-differ p r s t channel message on pattern next after h k e = refused P c (Pass i j) cause.ChannelsDiffer (meeting p r s t channel message on pattern next after false h k (turned (value_of t on) (value_of s channel) false e))

  values : (p r : ℕ) (s t : Environment) (q w : Process) (b : Bool) → Stands P c i p s q → Stands P c j r t w → (list_any is_large (values_of s (terms_at q)) || list_any is_large (values_of t (terms_at w))) ≡ b → list_any is_large (evaluated P c (Pass i j)) ≡ b
  values p r s t q w b h k l =
      any-append is_large (listed P c i written) (listed P c j written)
      ∙ (ap (λ xs. list_any is_large xs || list_any is_large (listed P c j written)) (listed_stands P c i p s q written h)
      ∙ (ap (λ xs. list_any is_large (values_of s (terms_at q)) || list_any is_large xs) (listed_stands P c j r t w written k) ∙ l))

  pub pass-large : (p r : ℕ) (s t : Environment) (channel message on : Term) (pattern : Pattern) (next after : Process) → Stands P c i p s (Output channel message next) → Stands P c j r t (Input on pattern after) → same_value (value_of t on) (value_of s channel) ≡ true → (list_any is_large (values_of s (terms_at (Output channel message next))) || list_any is_large (values_of t (terms_at (Input on pattern after)))) ≡ true → IsRefused P c (Pass i j) cause.Large
  pass-large p r s t channel message on pattern next after h k e l =
      large P c (Pass i j) (meeting p r s t channel message on pattern next after true h k (turned (value_of t on) (value_of s channel) true e)) (values p r s t (Output channel message next) (Input on pattern after) true h k l)

  pub pass-possible : (p r : ℕ) (s t : Environment) (channel message on : Term) (pattern : Pattern) (next after : Process) → Stands P c i p s (Output channel message next) → Stands P c j r t (Input on pattern after) → same_value (value_of t on) (value_of s channel) ≡ true → (list_any is_large (values_of s (terms_at (Output channel message next))) || list_any is_large (values_of t (terms_at (Input on pattern after)))) ≡ false → IsPossible P c (Pass i j) (goes_on (advanced c i (p + 1)) j (received r t (matched t pattern (value_of s message))))
  pass-possible p r s t channel message on pattern next after h k e l =
      possible P c (Pass i j) (goes_on (advanced c i (p + 1)) j (received r t (matched t pattern (value_of s message)))) (meeting p r s t channel message on pattern next after true h k (turned (value_of t on) (value_of s channel) true e)) (values p r s t (Output channel message next) (Input on pattern after) false h k l)
      (acting_stands P c (after_pass P c i j) i p s (Output channel message next) h
      ∙ (acting_stands P c (after_receipt c i j (At (p + 1) s) (value_of s channel) (value_of s message)) j r t (Input on pattern after) k
      ∙ (ap (λ b. cond b (Some (goes_on (goes_on c i (At (p + 1) s)) j (received r t (matched t pattern (value_of s message))))) None) (turned (value_of t on) (value_of s channel) true e)
      ∙ ap (λ d. Some (goes_on d j (received r t (matched t pattern (value_of s message))))) (sym (advanced_stands P c i p (p + 1) s (Output channel message next) h)))))

pub ruleset of_pass = (pass-no_sender, pass-no_receiver, pass-ended_sender, pass-ended_receiver)

pub ruleset of_meeting = (pass-no_output, pass-no_input, pass-differ, pass-large, pass-possible)
