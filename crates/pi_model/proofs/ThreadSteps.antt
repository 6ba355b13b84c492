-- When each step is possible, and for which cause it is refused, from what stands at its threads.
use Rattle.std.proofs.Common.{subst, ◌≡◌, ℕ, zero, suc, ◌+◌, Bool, true, false, not, ◌||◌, cond, List, [], ◌∷◌, ◌++◌, Option, None, Some, is_some, is_none, option_and_then, option_map, unwrap_or, slice_get, slice_set, refl, sym, ap, ◌∙◌}
use Rattle.std.specs.List.{list_any, flat_map}
use Rattle.std.specs.Option.{option_map_or, option_or}
use Rattle.spec_trees.specs.Tree.{Leaf}
use Rattle.spec_calculus.specs.Syntax.{Made, Term, Pattern, Expression, EventTerm, Process, Output, Input, Parallel, Replication, New, Let, Event, Protocol}
use Rattle.spec_calculus.specs.Points.{numbered, replaced, point_after}
use Rattle.spec_calculus.specs.Values.{MadeName, Value, Environment, value_of, values_of}
use Rattle.spec_calculus.specs.Matching.{matched}
use Rattle.spec_calculus.specs.Choices.{choices, choice_at, value_at, values_at, part_values}
use Rattle.spec_calculus.specs.Runs.{Thread, At, Ended, Configuration, Step, Split, Copy, Make, Hear, Say, Take, Fail, Mark, acts, acting, learns, goes_on, begins, names, performs, knows, received, after_split, after_copy, after_make, after_hear, after_say, after_take, after_fail, after_mark, after_step}
use Rattle.spec_calculus.specs.Refusals as cause
use Rattle.spec_calculus.specs.Refusals.{Refusal, Cause, first_cause, where_true, takes, is_public_constructor, first_arity, reduces, at_split, at_copy, at_make, at_output, at_input, at_take, at_fail, at_mark, no_thread, refusal}
use Rattle.spec_calculus.specs.Limits.{is_large, terms_at, listed, written, tried, all_tried, evaluated}
use Rattle.pi_model.specs.declared.errors.StepError.{StepError}
use Rattle.pi_model.specs.declared.errors.StepError.TheVariants.{NoThread, WrongForm, UnknownChannel, ChannelsDiffer, NoKnowledge, NoRule, NotFailing, NotPublic, NoEntry, Large}
use Rattle.pi_model.specs.Errors.{refusal_of}
use Rattle.pi_configurations.specs.Moves.{moved_to, moved, advanced}
use Rattle.pi_model.specs.Plans.{IsPossible, IsRefused, Stands, StandsNowhere}
use Rattle.term_values.proofs.Room.{any-append}

-- a thread that goes on while a new one begins
read-before : {A : Type 0} (xs ys : List A) (k : ℕ) (x : A) → slice_get xs k ≡ Some x → slice_get (xs ++ ys) k ≡ Some x
read-before [] ys k x h = cc
read-before (z ∷ xs) ys zero x h = h
read-before (z ∷ xs) ys (suc k) x h = read-before xs ys k x h

set-before : {A : Type 0} (xs ys : List A) (k : ℕ) (x y : A) → slice_get xs k ≡ Some x → slice_set (xs ++ ys) k y ≡ slice_set xs k y ++ ys
set-before [] ys k x y h = cc
set-before (z ∷ xs) ys zero x y h = refl
set-before (z ∷ xs) ys (suc k) x y h = ap (λ zs. z ∷ zs) (set-before xs ys k x y h)

moved-before : (threads : List Thread) (from new : Thread) (i to : ℕ) → numbered threads i ≡ Some from → moved (threads ++ new ∷ []) i to ≡ replaced threads i (moved_to to from) ++ new ∷ []
moved-before threads from new zero to h = cc
moved-before threads from new (suc k) to h =
    ap (λ o. option_map_or (λ thread. replaced (threads ++ new ∷ []) (suc k) (moved_to to thread)) o (threads ++ new ∷ [])) (read-before threads (new ∷ []) k from h)
    ∙ set-before threads (new ∷ []) k from (moved_to to from) h

module _ (P : Protocol) (c : Configuration) where
  pub acting_stands : {A : Type 0} (action : ℕ → Environment → Process → Option A) (i p : ℕ) (s : Environment) (q : Process) → Stands P c i p s q → acting P c i action ≡ action p s q
  acting_stands action i p s q h = ap (option_and_then (λ thread. acts P thread action)) h.thread ∙ ap (option_and_then (action p s)) h.node

  pub acting_thread : {A : Type 0} (action : ℕ → Environment → Process → Option A) (i : ℕ) (o : Option Thread) → numbered c.threads i ≡ o → acting P c i action ≡ option_and_then (λ thread. acts P thread action) o
  acting_thread action i o h = ap (option_and_then (λ thread. acts P thread action)) h

  pub listed_stands : (i p : ℕ) (s : Environment) (q : Process) (action : ℕ → Environment → Process → Option (List Value)) → Stands P c i p s q → listed P c i action ≡ unwrap_or (action p s q) []
  listed_stands i p s q action h = ap (λ o. unwrap_or o []) (acting_stands action i p s q h)

  pub advanced_stands : (i p to : ℕ) (s : Environment) (q : Process) → Stands P c i p s q → advanced c i to ≡ goes_on c i (At to s)
  advanced_stands i p to s q h =
      ap (λ o. record c { threads = option_map_or (λ thread. replaced c.threads i (moved_to to thread)) o c.threads }) h.thread

  -- steps that are possible, and steps that are refused
  pub possible : (step : Step) (d : Configuration) → refusal P c step ≡ None → list_any is_large (evaluated P c step) ≡ false → after_step P c step ≡ Some d → IsPossible P c step d
  possible step d r l h = record {
    after = h;
    allowed = ap (λ o. option_or o (cond (list_any is_large (evaluated P c step)) (Some cause.Large) None)) r ∙ ap (λ b. cond b (Some cause.Large) None) l;
  }

  pub refused : (step : Step) (r : Refusal) → refusal P c step ≡ Some r → IsRefused P c step r
  refused step r h = record { refused = ap (λ o. option_or o (cond (list_any is_large (evaluated P c step)) (Some cause.Large) None)) h }

  pub large : (step : Step) → refusal P c step ≡ None → list_any is_large (evaluated P c step) ≡ true → IsRefused P c step cause.Large
  large step r l = record { refused = ap (λ o. option_or o (cond (list_any is_large (evaluated P c step)) (Some cause.Large) None)) r ∙ ap (λ b. cond b (Some cause.Large) None) l }

  -- the two causes that each step of one thread may have first
  pub nowhere : {A : Type 0} (a : ℕ → Environment → Process → Option A) (rest : List Cause) (i : ℕ) (e : StepError) → StandsNowhere c i e → first_cause (where_true cause.NoThread (no_thread c i) ∷ where_true cause.WrongForm (is_none (acting P c i a)) ∷ rest) ≡ Some (refusal_of e)
  nowhere a rest i NoThread h = ap (λ o. first_cause (where_true cause.NoThread (is_none o) ∷ where_true cause.WrongForm (is_none (acting P c i a)) ∷ rest)) h
  nowhere a rest i WrongForm h =
      ap (λ o. first_cause (where_true cause.NoThread (is_none o) ∷ where_true cause.WrongForm (is_none (acting P c i a)) ∷ rest)) h
      ∙ ap (λ o. first_cause (where_true cause.WrongForm (is_none o) ∷ rest)) (acting_thread a i (Some Ended) h)
  nowhere a rest i UnknownChannel h = absurd h
  nowhere a rest i ChannelsDiffer h = absurd h
  nowhere a rest i NoKnowledge h = absurd h
  nowhere a rest i NoRule h = absurd h
  nowhere a rest i NotFailing h = absurd h
  nowhere a rest i NotPublic h = absurd h
  nowhere a rest i NoEntry h = absurd h
  nowhere a rest i Large h = absurd h

  pub elsewhere : {A : Type 0} (a : ℕ → Environment → Process → Option A) (rest : List Cause) (i p : ℕ) (s : Environment) (q : Process) → Stands P c i p s q → a p s q ≡ None → first_cause (where_true cause.NoThread (no_thread c i) ∷ where_true cause.WrongForm (is_none (acting P c i a)) ∷ rest) ≡ Some cause.WrongForm
  elsewhere a rest i p s q h e =
      ap (λ o. first_cause (where_true cause.NoThread (is_none o) ∷ where_true cause.WrongForm (is_none (acting P c i a)) ∷ rest)) h.thread
      ∙ ap (λ o. first_cause (where_true cause.WrongForm (is_none o) ∷ rest)) (acting_stands a i p s q h ∙ e)

  pub here : {A : Type 0} (a : ℕ → Environment → Process → Option A) (rest : List Cause) (i p : ℕ) (s : Environment) (q : Process) (x : A) → Stands P c i p s q → a p s q ≡ Some x → first_cause (where_true cause.NoThread (no_thread c i) ∷ where_true cause.WrongForm (is_none (acting P c i a)) ∷ rest) ≡ first_cause rest
  here a rest i p s q x h e =
      ap (λ o. first_cause (where_true cause.NoThread (is_none o) ∷ where_true cause.WrongForm (is_none (acting P c i a)) ∷ rest)) h.thread
      ∙ ap (λ o. first_cause (where_true cause.WrongForm (is_none o) ∷ rest)) (acting_stands a i p s q h ∙ e)

  -- split
  pub split-nowhere : (i : ℕ) (e : StepError) → StandsNowhere c i e → IsRefused P c (Split i) (refusal_of e)
  split-nowhere i e h = refused (Split i) (refusal_of e) (nowhere at_split [] i e h)

  pub split-elsewhere : (i p : ℕ) (s : Environment) (q : Process) → Stands P c i p s q → at_split p s q ≡ None → IsRefused P c (Split i) cause.WrongForm
  split-elsewhere i p s q h e = refused (Split i) cause.WrongForm (elsewhere at_split [] i p s q h e)

  split-possible-after : (i p : ℕ) (s : Environment) (l r : Process) → Stands P c i p s (Parallel l r) → IsPossible P c (Split i) (advanced (begins c (At (point_after (p + 1) l) s)) i (p + 1))
  split-possible-after i p s l r h =
      possible (Split i) (advanced (begins c (At (point_after (p + 1) l) s)) i (p + 1)) (here at_split [] i p s (Parallel l r) l h refl) refl
      (acting_stands (after_split c i) i p s (Parallel l r) h ∙ ap (λ ts. Some (record c { threads = ts })) (sym (moved-before c.threads (At p s) (At (point_after (p + 1) l) s) i (p + 1) h.thread)))

  pub split-possible : (i p right : ℕ) (s t : Environment) (l r : Process) → Stands P c i p s (Parallel l r) → right ≡ point_after (p + 1) l → t ≡ s → IsPossible P c (Split i) (advanced (begins c (At right t)) i (p + 1))
  split-possible i p right s t l r h e f =
      subst (λ q. IsPossible P c (Split i) (advanced (begins c (At q t)) i (p + 1))) (sym e) (subst (λ u. IsPossible P c (Split i) (advanced (begins c (At (point_after (p + 1) l) u)) i (p + 1))) (sym f) (split-possible-after i p s l r h))

  -- copy
  pub copy-nowhere : (i : ℕ) (e : StepError) → StandsNowhere c i e → IsRefused P c (Copy i) (refusal_of e)
  copy-nowhere i e h = refused (Copy i) (refusal_of e) (nowhere at_copy [] i e h)

  pub copy-elsewhere : (i p : ℕ) (s : Environment) (q : Process) → Stands P c i p s q → at_copy p s q ≡ None → IsRefused P c (Copy i) cause.WrongForm
  copy-elsewhere i p s q h e = refused (Copy i) cause.WrongForm (elsewhere at_copy [] i p s q h e)

  pub copy-possible : (i p : ℕ) (s : Environment) (copied : Process) → Stands P c i p s (Replication copied) → IsPossible P c (Copy i) (begins c (At (p + 1) s))
  copy-possible i p s copied h =
      possible (Copy i) (begins c (At (p + 1) s)) (here at_copy [] i p s (Replication copied) copied h refl) refl (acting_stands (after_copy c) i p s (Replication copied) h)

  -- make
  pub make-nowhere : (i : ℕ) (e : StepError) → StandsNowhere c i e → IsRefused P c (Make i) (refusal_of e)
  make-nowhere i e h = refused (Make i) (refusal_of e) (nowhere at_make [] i e h)

  pub make-elsewhere : (i p : ℕ) (s : Environment) (q : Process) → Stands P c i p s q → at_make p s q ≡ None → IsRefused P c (Make i) cause.WrongForm
  make-elsewhere i p s q h e = refused (Make i) cause.WrongForm (elsewhere at_make [] i p s q h e)

  pub make-possible : (i p : ℕ) (s : Environment) (word : List ℕ) (next : Process) → Stands P c i p s (New word next) → IsPossible P c (Make i) (names (goes_on c i (At (p + 1) (s ++ record { name = Made p; value = Leaf (MadeName p c.next) } ∷ []))))
  make-possible i p s word next h =
      possible (Make i) (names (goes_on c i (At (p + 1) (s ++ record { name = Made p; value = Leaf (MadeName p c.next) } ∷ [])))) (here at_make [] i p s (New word next) next h refl) refl
      (acting_stands (after_make c i) i p s (New word next) h)

  -- hear
  pub hear-nowhere : (i : ℕ) (e : StepError) → StandsNowhere c i e → IsRefused P c (Hear i) (refusal_of e)
  hear-nowhere i e h = refused (Hear i) (refusal_of e) (nowhere at_output (where_true cause.UnknownChannel (not (option_map_or (knows c) (acting P c i at_output) false)) ∷ []) i e h)

  pub hear-elsewhere : (i p : ℕ) (s : Environment) (q : Process) → Stands P c i p s q → at_output p s q ≡ None → IsRefused P c (Hear i) cause.WrongForm
  hear-elsewhere i p s q h e = refused (Hear i) cause.WrongForm (elsewhere at_output (where_true cause.UnknownChannel (not (option_map_or (knows c) (acting P c i at_output) false)) ∷ []) i p s q h e)

  hear-cause : (i p : ℕ) (s : Environment) (channel message : Term) (next : Process) (known : Bool) → Stands P c i p s (Output channel message next) → knows c (value_of s channel) ≡ known → refusal P c (Hear i) ≡ first_cause (where_true cause.UnknownChannel (not known) ∷ [])
  hear-cause i p s channel message next known h k =
      here at_output (where_true cause.UnknownChannel (not (option_map_or (knows c) (acting P c i at_output) false)) ∷ []) i p s (Output channel message next) (value_of s channel) h refl
      ∙ (ap (λ o. first_cause (where_true cause.UnknownChannel (not (option_map_or (knows c) o false)) ∷ [])) (acting_stands at_output i p s (Output channel message next) h)
      ∙ ap (λ b. first_cause (where_true cause.UnknownChannel (not b) ∷ [])) k)

  pub written-values : (i p : ℕ) (s : Environment) (q : Process) (b : Bool) → Stands P c i p s q → list_any is_large (values_of s (terms_at q)) ≡ b → list_any is_large (listed P c i written) ≡ b
  written-values i p s q b h l = ap (list_any is_large) (listed_stands i p s q written h) ∙ l

  pub hear-unknown : (i p : ℕ) (s : Environment) (channel message : Term) (next : Process) → Stands P c i p s (Output channel message next) → knows c (value_of s channel) ≡ false → IsRefused P c (Hear i) cause.UnknownChannel
  hear-unknown i p s channel message next h k = refused (Hear i) cause.UnknownChannel (hear-cause i p s channel message next false h k)

  pub hear-large : (i p : ℕ) (s : Environment) (channel message : Term) (next : Process) → Stands P c i p s (Output channel message next) → knows c (value_of s channel) ≡ true → list_any is_large (values_of s (terms_at (Output channel message next))) ≡ true → IsRefused P c (Hear i) cause.Large
  hear-large i p s channel message next h k l = large (Hear i) (hear-cause i p s channel message next true h k) (written-values i p s (Output channel message next) true h l)

  pub hear-possible : (i p : ℕ) (s : Environment) (channel message : Term) (next : Process) → Stands P c i p s (Output channel message next) → knows c (value_of s channel) ≡ true → list_any is_large (values_of s (terms_at (Output channel message next))) ≡ false → IsPossible P c (Hear i) (learns (advanced c i (p + 1)) (value_of s message))
  hear-possible i p s channel message next h k l =
      possible (Hear i) (learns (advanced c i (p + 1)) (value_of s message)) (hear-cause i p s channel message next true h k) (written-values i p s (Output channel message next) false h l)
      (acting_stands (after_hear c i) i p s (Output channel message next) h
      ∙ (ap (λ b. cond b (Some (learns (goes_on c i (At (p + 1) s)) (value_of s message))) None) k
      ∙ ap (λ d. Some (learns d (value_of s message))) (sym (advanced_stands i p (p + 1) s (Output channel message next) h))))

  -- say
  pub say-nowhere : (j k : ℕ) (e : StepError) → StandsNowhere c j e → IsRefused P c (Say j k) (refusal_of e)
  say-nowhere j k e h = refused (Say j k) (refusal_of e) (nowhere at_input (where_true cause.UnknownChannel (not (option_map_or (knows c) (acting P c j at_input) false)) ∷ where_true cause.NoKnowledge (is_none (numbered c.known k)) ∷ []) j e h)

  pub say-elsewhere : (j k p : ℕ) (s : Environment) (q : Process) → Stands P c j p s q → at_input p s q ≡ None → IsRefused P c (Say j k) cause.WrongForm
  say-elsewhere j k p s q h e = refused (Say j k) cause.WrongForm (elsewhere at_input (where_true cause.UnknownChannel (not (option_map_or (knows c) (acting P c j at_input) false)) ∷ where_true cause.NoKnowledge (is_none (numbered c.known k)) ∷ []) j p s q h e)

  say-cause : (j k p : ℕ) (s : Environment) (channel : Term) (pattern : Pattern) (next : Process) (known : Bool) (o : Option Value) → Stands P c j p s (Input channel pattern next) → knows c (value_of s channel) ≡ known → numbered c.known k ≡ o → refusal P c (Say j k) ≡ first_cause (where_true cause.UnknownChannel (not known) ∷ where_true cause.NoKnowledge (is_none o) ∷ [])
  say-cause j k p s channel pattern next known o h e f =
      here at_input (where_true cause.UnknownChannel (not (option_map_or (knows c) (acting P c j at_input) false)) ∷ where_true cause.NoKnowledge (is_none (numbered c.known k)) ∷ []) j p s (Input channel pattern next) (value_of s channel) h refl
      ∙ (ap (λ x. first_cause (where_true cause.UnknownChannel (not (option_map_or (knows c) x false)) ∷ where_true cause.NoKnowledge (is_none (numbered c.known k)) ∷ [])) (acting_stands at_input j p s (Input channel pattern next) h)
      ∙ (ap (λ b. first_cause (where_true cause.UnknownChannel (not b) ∷ where_true cause.NoKnowledge (is_none (numbered c.known k)) ∷ [])) e
      ∙ ap (λ x. first_cause (where_true cause.UnknownChannel (not known) ∷ where_true cause.NoKnowledge (is_none x) ∷ [])) f))

  pub say-unknown : (j k p : ℕ) (s : Environment) (channel : Term) (pattern : Pattern) (next : Process) → Stands P c j p s (Input channel pattern next) → knows c (value_of s channel) ≡ false → IsRefused P c (Say j k) cause.UnknownChannel
  say-unknown j k p s channel pattern next h e = refused (Say j k) cause.UnknownChannel (say-cause j k p s channel pattern next false (numbered c.known k) h e refl)

  pub say-no_value : (j k p : ℕ) (s : Environment) (channel : Term) (pattern : Pattern) (next : Process) → Stands P c j p s (Input channel pattern next) → knows c (value_of s channel) ≡ true → numbered c.known k ≡ None → IsRefused P c (Say j k) cause.NoKnowledge
  say-no_value j k p s channel pattern next h e f = refused (Say j k) cause.NoKnowledge (say-cause j k p s channel pattern next true None h e f)

  pub say-large : (j k p : ℕ) (s : Environment) (channel : Term) (pattern : Pattern) (next : Process) (v : Value) → Stands P c j p s (Input channel pattern next) → knows c (value_of s channel) ≡ true → numbered c.known k ≡ Some v → list_any is_large (values_of s (terms_at (Input channel pattern next))) ≡ true → IsRefused P c (Say j k) cause.Large
  say-large j k p s channel pattern next v h e f l =
      large (Say j k) (say-cause j k p s channel pattern next true (Some v) h e f) (written-values j p s (Input channel pattern next) true h l)

  pub say-possible : (j k p : ℕ) (s : Environment) (channel : Term) (pattern : Pattern) (next : Process) (v : Value) → Stands P c j p s (Input channel pattern next) → knows c (value_of s channel) ≡ true → numbered c.known k ≡ Some v → list_any is_large (values_of s (terms_at (Input channel pattern next))) ≡ false → IsPossible P c (Say j k) (goes_on c j (received p s (matched s pattern v)))
  say-possible j k p s channel pattern next v h e f l =
      possible (Say j k) (goes_on c j (received p s (matched s pattern v))) (say-cause j k p s channel pattern next true (Some v) h e f) (written-values j p s (Input channel pattern next) false h l)
      (ap (option_and_then (λ w. acting P c j (after_say c j w))) f
      ∙ (acting_stands (after_say c j v) j p s (Input channel pattern next) h
      ∙ ap (λ b. cond b (Some (goes_on c j (received p s (matched s pattern v)))) None) e))

  -- mark
  pub mark-nowhere : (i : ℕ) (e : StepError) → StandsNowhere c i e → IsRefused P c (Mark i) (refusal_of e)
  mark-nowhere i e h = refused (Mark i) (refusal_of e) (nowhere at_mark [] i e h)

  pub mark-elsewhere : (i p : ℕ) (s : Environment) (q : Process) → Stands P c i p s q → at_mark p s q ≡ None → IsRefused P c (Mark i) cause.WrongForm
  mark-elsewhere i p s q h e = refused (Mark i) cause.WrongForm (elsewhere at_mark [] i p s q h e)

  pub mark-large : (i p : ℕ) (s : Environment) (performed : EventTerm) (next : Process) → Stands P c i p s (Event performed next) → list_any is_large (values_of s (terms_at (Event performed next))) ≡ true → IsRefused P c (Mark i) cause.Large
  mark-large i p s performed next h l = large (Mark i) (here at_mark [] i p s (Event performed next) next h refl) (written-values i p s (Event performed next) true h l)

  pub mark-possible : (i p : ℕ) (s : Environment) (performed : EventTerm) (next : Process) → Stands P c i p s (Event performed next) → list_any is_large (values_of s (terms_at (Event performed next))) ≡ false → IsPossible P c (Mark i) (performs (advanced c i (p + 1)) (record { event = performed.event; arguments = values_of s performed.arguments }))
  mark-possible i p s performed next h l =
      possible (Mark i) (performs (advanced c i (p + 1)) (record { event = performed.event; arguments = values_of s performed.arguments })) (here at_mark [] i p s (Event performed next) next h refl) (written-values i p s (Event performed next) false h l)
      (acting_stands (after_mark c i) i p s (Event performed next) h
      ∙ ap (λ d. Some (performs d (record { event = performed.event; arguments = values_of s performed.arguments }))) (sym (advanced_stands i p (p + 1) s (Event performed next) h)))

  -- take
  pub take-nowhere : (i : ℕ) (label : List ℕ) (e : StepError) → StandsNowhere c i e → IsRefused P c (Take i label) (refusal_of e)
  take-nowhere i label e h = refused (Take i label) (refusal_of e) (nowhere (at_take P label) (where_true cause.NoRule (not (option_map_or (λ matches. matches) (acting P c i (at_take P label)) false)) ∷ []) i e h)

  pub take-elsewhere : (i : ℕ) (label : List ℕ) (p : ℕ) (s : Environment) (q : Process) → Stands P c i p s q → at_take P label p s q ≡ None → IsRefused P c (Take i label) cause.WrongForm
  take-elsewhere i label p s q h e = refused (Take i label) cause.WrongForm (elsewhere (at_take P label) (where_true cause.NoRule (not (option_map_or (λ matches. matches) (acting P c i (at_take P label)) false)) ∷ []) i p s q h e)

  -- at a `let`
  module _ (i : ℕ) (label : List ℕ) (p : ℕ) (s : Environment) (pattern : Pattern) (expression : Expression) (next otherwise : Process) (h : Stands P c i p s (Let pattern expression next otherwise)) where
    take-cause : (o : Option Environment) → option_and_then (matched s pattern) (value_at P s expression label) ≡ o → refusal P c (Take i label) ≡ first_cause (where_true cause.NoRule (not (is_some o)) ∷ [])
    take-cause o e =
        here (at_take P label) (where_true cause.NoRule (not (option_map_or (λ matches. matches) (acting P c i (at_take P label)) false)) ∷ []) i p s (Let pattern expression next otherwise) (is_some (option_and_then (matched s pattern) (value_at P s expression label))) h refl
        ∙ (ap (λ x. first_cause (where_true cause.NoRule (not (option_map_or (λ matches. matches) x false)) ∷ [])) (acting_stands (at_take P label) i p s (Let pattern expression next otherwise) h)
        ∙ ap (λ x. first_cause (where_true cause.NoRule (not (is_some x)) ∷ [])) e)

    pub take-no_value : value_at P s expression label ≡ None → IsRefused P c (Take i label) cause.NoRule
    take-no_value e = refused (Take i label) cause.NoRule (take-cause None (ap (option_and_then (matched s pattern)) e))

    pub take-no_match : (v : Value) → value_at P s expression label ≡ Some v → matched s pattern v ≡ None → IsRefused P c (Take i label) cause.NoRule
    take-no_match v e m = refused (Take i label) cause.NoRule (take-cause None (ap (option_and_then (matched s pattern)) e ∙ m))

    -- whether a value that the choice of the label evaluates is large
    abbrev IsLargeTried : Bool → Type 0
    IsLargeTried large = large ≡ list_any is_large (option_map_or (λ choice. part_values s choice.ruled) (choice_at P expression label) [])

    take-values : (large b : Bool) → IsLargeTried large → (list_any is_large (values_of s (terms_at (Let pattern expression next otherwise))) || large) ≡ b → list_any is_large (evaluated P c (Take i label)) ≡ b
    take-values large b t l =
        any-append is_large (listed P c i written) (listed P c i (tried P label))
        ∙ (ap (λ xs. list_any is_large xs || list_any is_large (listed P c i (tried P label))) (listed_stands i p s (Let pattern expression next otherwise) written h)
        ∙ (ap (λ xs. list_any is_large (values_of s (terms_at (Let pattern expression next otherwise))) || list_any is_large xs) (listed_stands i p s (Let pattern expression next otherwise) (tried P label) h)
        ∙ (ap (λ d. list_any is_large (values_of s (terms_at (Let pattern expression next otherwise))) || d) (sym t) ∙ l)))

    pub take-large : (v : Value) (large_tried : Bool) (bs : Environment) → value_at P s expression label ≡ Some v → IsLargeTried large_tried → matched s pattern v ≡ Some bs → (list_any is_large (values_of s (terms_at (Let pattern expression next otherwise))) || large_tried) ≡ true → IsRefused P c (Take i label) cause.Large
    take-large v large_tried bs e t m l = large (Take i label) (take-cause (Some bs) (ap (option_and_then (matched s pattern)) e ∙ m)) (take-values large_tried true t l)

    pub take-possible : (v : Value) (large_tried : Bool) (bs : Environment) → value_at P s expression label ≡ Some v → IsLargeTried large_tried → matched s pattern v ≡ Some bs → (list_any is_large (values_of s (terms_at (Let pattern expression next otherwise))) || large_tried) ≡ false → IsPossible P c (Take i label) (goes_on c i (At (p + 1) (s ++ bs)))
    take-possible v large_tried bs e t m l =
        possible (Take i label) (goes_on c i (At (p + 1) (s ++ bs))) (take-cause (Some bs) (ap (option_and_then (matched s pattern)) e ∙ m)) (take-values large_tried false t l)
        (acting_stands (after_take P c i label) i p s (Let pattern expression next otherwise) h
        ∙ ap (λ o. option_map (λ xs. goes_on c i (At (p + 1) (s ++ xs))) o) (ap (option_and_then (matched s pattern)) e ∙ m))

  -- fail
  pub fail-nowhere : (i : ℕ) (e : StepError) → StandsNowhere c i e → IsRefused P c (Fail i) (refusal_of e)
  fail-nowhere i e h = refused (Fail i) (refusal_of e) (nowhere (at_fail P) (where_true cause.NotFailing (option_map_or (λ matches. matches) (acting P c i (at_fail P)) false) ∷ []) i e h)

  pub fail-elsewhere : (i p : ℕ) (s : Environment) (q : Process) → Stands P c i p s q → at_fail P p s q ≡ None → IsRefused P c (Fail i) cause.WrongForm
  fail-elsewhere i p s q h e = refused (Fail i) cause.WrongForm (elsewhere (at_fail P) (where_true cause.NotFailing (option_map_or (λ matches. matches) (acting P c i (at_fail P)) false) ∷ []) i p s q h e)

  module _ (i p : ℕ) (s : Environment) (pattern : Pattern) (expression : Expression) (next otherwise : Process) (h : Stands P c i p s (Let pattern expression next otherwise)) where
    -- whether a value matches
    abbrev IsMatching : Bool → Type 0
    IsMatching matching = matching ≡ list_any (λ v. is_some (matched s pattern v)) (values_at P s expression)

    fail-cause : (matching : Bool) → IsMatching matching → refusal P c (Fail i) ≡ first_cause (where_true cause.NotFailing matching ∷ [])
    fail-cause matching e =
        here (at_fail P) (where_true cause.NotFailing (option_map_or (λ matches. matches) (acting P c i (at_fail P)) false) ∷ []) i p s (Let pattern expression next otherwise) (list_any (λ v. is_some (matched s pattern v)) (values_at P s expression)) h refl
        ∙ (ap (λ x. first_cause (where_true cause.NotFailing (option_map_or (λ matches. matches) x false) ∷ [])) (acting_stands (at_fail P) i p s (Let pattern expression next otherwise) h)
        ∙ ap (λ x. first_cause (where_true cause.NotFailing x ∷ [])) (sym e))

    -- whether a value that a choice evaluates is large
    abbrev IsAnyLarge : Bool → Type 0
    IsAnyLarge any_large = any_large ≡ list_any is_large (flat_map (λ choice. part_values s choice.ruled) (choices P expression))

    fail-values : (any_large b : Bool) → IsAnyLarge any_large → (list_any is_large (values_of s (terms_at (Let pattern expression next otherwise))) || any_large) ≡ b → list_any is_large (evaluated P c (Fail i)) ≡ b
    fail-values any_large b t l =
        any-append is_large (listed P c i written) (listed P c i (all_tried P))
        ∙ (ap (λ xs. list_any is_large xs || list_any is_large (listed P c i (all_tried P))) (listed_stands i p s (Let pattern expression next otherwise) written h)
        ∙ (ap (λ xs. list_any is_large (values_of s (terms_at (Let pattern expression next otherwise))) || list_any is_large xs) (listed_stands i p s (Let pattern expression next otherwise) (all_tried P) h)
        ∙ (ap (λ d. list_any is_large (values_of s (terms_at (Let pattern expression next otherwise))) || d) (sym t) ∙ l)))

    pub fail-matches : (matching : Bool) → IsMatching matching → matching ≡ true → IsRefused P c (Fail i) cause.NotFailing
    fail-matches matching e is = refused (Fail i) cause.NotFailing (fail-cause true (sym is ∙ e))

    pub fail-large : (matching any_large : Bool) → IsMatching matching → matching ≡ false → IsAnyLarge any_large → (list_any is_large (values_of s (terms_at (Let pattern expression next otherwise))) || any_large) ≡ true → IsRefused P c (Fail i) cause.Large
    fail-large matching any_large e is t l = large (Fail i) (fail-cause false (sym is ∙ e)) (fail-values any_large true t l)

    pub fail-possible : (matching any_large : Bool) → IsMatching matching → matching ≡ false → IsAnyLarge any_large → (list_any is_large (values_of s (terms_at (Let pattern expression next otherwise))) || any_large) ≡ false → IsPossible P c (Fail i) (advanced c i (point_after (p + 1) next))
    fail-possible matching any_large e is t l =
        possible (Fail i) (advanced c i (point_after (p + 1) next)) (fail-cause false (sym is ∙ e)) (fail-values any_large false t l)
        (acting_stands (after_fail P c i) i p s (Let pattern expression next otherwise) h
        ∙ (ap (λ b. cond b None (Some (goes_on c i (At (point_after (p + 1) next) s)))) (sym e ∙ is)
        ∙ ap Some (sym (advanced_stands i p (point_after (p + 1) next) s (Let pattern expression next otherwise) h))))

pub ruleset of_split = (split-nowhere, split-elsewhere, split-possible)

pub ruleset of_copy = (copy-nowhere, copy-elsewhere, copy-possible)

pub ruleset of_make = (make-nowhere, make-elsewhere, make-possible)

pub ruleset of_hear = (hear-nowhere, hear-elsewhere, hear-unknown, hear-large, hear-possible)

pub ruleset of_say = (say-nowhere, say-elsewhere, say-unknown, say-no_value, say-large, say-possible)

pub ruleset of_mark = (mark-nowhere, mark-elsewhere, mark-large, mark-possible)

pub ruleset of_take = (take-nowhere, take-elsewhere, take-no_value, take-no_match, take-large, take-possible)

pub ruleset of_fail = (fail-nowhere, fail-elsewhere, fail-matches, fail-large, fail-possible)
