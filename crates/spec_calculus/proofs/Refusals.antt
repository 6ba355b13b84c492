-- A step is refused exactly where it is not possible.
use Rattle.std.proofs.Common.{◌≡◌, ℕ, zero, suc, ◌+◌, Bool, true, false, not, ◌&&◌, ◌||◌, nat_le, nat_lt, nat_eq, cond, List, [], ◌∷◌, ◌++◌, length, slice_get, Option, None, Some, is_some, is_none, IsNone, IsSome, ◌↔◌, option_and_then, option_map, refl, sym, ap, ◌∙◌, subst}
use Rattle.std.proofs.lemmas.Bool.{eq-eqb}
use Rattle.std.proofs.lemmas.List.{length-map}
use Rattle.std.specs.List.{list_any}
use Rattle.std.specs.Option.{option_map_or}
use Rattle.spec_calculus.specs.Bounds.{most_arguments}
use Rattle.spec_calculus.specs.Syntax.{Process, Output, Input, Parallel, Replication, New, Let, Event, Insert, Get, Declared, Rule, Protocol}
use Rattle.spec_calculus.specs.Points.{numbered, nodes, point_after, greatest_phase}
use Rattle.spec_calculus.specs.Values.{Value, Environment, same_value, value_of}
use Rattle.spec_calculus.specs.Matching.{matched, instance_of, rule_value, rules_of}
use Rattle.spec_calculus.specs.Tables.{matched_entry}
use Rattle.spec_calculus.specs.Choices.{value_at, values_at}
use Rattle.spec_calculus.specs.Runs.{Thread, At, Ended, Configuration, Step, Build, Reduce, Part, Fresh, Split, Copy, Make, Pass, Hear, Say, Take, Fail, Mark, Next, Put, Fetch, Miss, acts, acting, knows, learns, goes_on, known_values, can_build, built, part_of, received, after_split, after_copy, after_make, after_receipt, after_pass, after_hear, after_say, after_take, after_fail, after_mark, after_put, after_fetch, after_miss, raised, after_step}
use Rattle.spec_calculus.specs.Refusals.{Refusal, NoThread, WrongForm, UnknownChannel, ChannelsDiffer, NoKnowledge, NoRule, NotFailing, NotPublic, NoEntry, first_cause, where_true, takes, is_public_constructor, first_arity, reduces, at_split, at_copy, at_make, at_output, at_input, at_take, at_fail, at_mark, at_put, at_fetch, at_miss, no_thread, refusal, AreUniform, IsUniform}
use Rattle.spec_calculus.proofs.Items.{each-slice_get, if_some-is}
use Rattle.spec_calculus.proofs.Rules.{rule_value-sound}

-- what an option shows
shows : {A : Type 0} (f : A → Bool) (o : Option A) → option_map_or f o false ≡ true → is_none o ≡ false
shows f None h = cc
shows f (Some x) h = refl

is_some-not : {A : Type 0} (o : Option A) → is_some o ≡ not (is_none o)
is_some-not None = refl
is_some-not (Some x) = refl

is_some-map : {A B : Type 0} (f : A → B) (o : Option A) → is_some (option_map f o) ≡ is_some o
is_some-map f None = refl
is_some-map f (Some x) = refl

is_some-always : {A : Type 0} (o : Option A) → option_map_or (λ x. true) o false ≡ is_some o
is_some-always None = refl
is_some-always (Some x) = refl

none_of_none : {A B : Type 0} (f : A → Option B) (o : Option A) → is_none (option_and_then f o) ≡ false → is_none o ≡ false
none_of_none f None h = cc
none_of_none f (Some x) h = refl

-- two and three causes in a row
two : (A B : Refusal) (t n k : Bool) → (n ≡ false → t ≡ false) → k ≡ not n → is_none (first_cause (where_true A t ∷ where_true B n ∷ [])) ≡ k
two A B true true k h e = sym e
two A B true false k h e = let bad = h refl in cc
two A B false true k h e = sym e
two A B false false k h e = sym e

three : (A B C : Refusal) (t n k : Bool) → (k ≡ true → n ≡ false) → (n ≡ false → t ≡ false) → is_none (first_cause (where_true A t ∷ where_true B n ∷ where_true C (not k) ∷ [])) ≡ k
three A B C true true true g h = let bad = g refl in cc
three A B C true true false g h = refl
three A B C true false k g h = let bad = h refl in cc
three A B C false true true g h = let bad = g refl in cc
three A B C false true false g h = refl
three A B C false false true g h = refl
three A B C false false false g h = refl

four : (A B C D : Refusal) (t n k m : Bool) → (k ≡ true → n ≡ false) → (n ≡ false → t ≡ false) → is_none (first_cause (where_true A t ∷ where_true B n ∷ where_true C (not k) ∷ where_true D m ∷ [])) ≡ (not m && k)
four A B C D true true true m g h = let bad = g refl in cc
four A B C D true true false true g h = refl
four A B C D true true false false g h = refl
four A B C D true false k m g h = let bad = h refl in cc
four A B C D false true true m g h = let bad = g refl in cc
four A B C D false true false true g h = refl
four A B C D false true false false g h = refl
four A B C D false false true true g h = refl
four A B C D false false true false g h = refl
four A B C D false false false true g h = refl
four A B C D false false false false g h = refl

module _ (P : Protocol) (c : Configuration) where
  -- two actions of one thread
  acts_like : {A B : Type 0} (f : A → Bool) (a : ℕ → Environment → Process → Option A) (b : ℕ → Environment → Process → Option B) → ((point : ℕ) (environment : Environment) (process : Process) → is_some (b point environment process) ≡ option_map_or f (a point environment process) false) → (thread : Thread) → is_some (acts P thread b) ≡ option_map_or f (acts P thread a) false
  acts_like f a b like (At point environment) = here (numbered (nodes P.main) point)
    where
      here : (o : Option Process) → is_some (option_and_then (b point environment) o) ≡ option_map_or f (option_and_then (a point environment) o) false
      here None = refl
      here (Some process) = like point environment process
  acts_like f a b like Ended = refl

  acting_like : {A B : Type 0} (i : ℕ) (f : A → Bool) (a : ℕ → Environment → Process → Option A) (b : ℕ → Environment → Process → Option B) → ((point : ℕ) (environment : Environment) (process : Process) → is_some (b point environment process) ≡ option_map_or f (a point environment process) false) → is_some (acting P c i b) ≡ option_map_or f (acting P c i a) false
  acting_like i f a b like = here (numbered c.threads i)
    where
      here : (o : Option Thread) → is_some (option_and_then (λ thread. acts P thread b) o) ≡ option_map_or f (option_and_then (λ thread. acts P thread a) o) false
      here None = refl
      here (Some thread) = acts_like f a b like thread

  there : {A : Type 0} (i : ℕ) (a : ℕ → Environment → Process → Option A) → is_none (acting P c i a) ≡ false → no_thread c i ≡ false
  there i a h = none_of_none (λ thread. acts P thread a) (numbered c.threads i) h

  -- a step that only wants its form
  form : {A : Type 0} (i : ℕ) (a : ℕ → Environment → Process → Option A) (b : ℕ → Environment → Process → Option Configuration) → ((point : ℕ) (environment : Environment) (process : Process) → is_some (b point environment process) ≡ option_map_or (λ x. true) (a point environment process) false) → is_none (first_cause (where_true NoThread (no_thread c i) ∷ where_true WrongForm (is_none (acting P c i a)) ∷ [])) ≡ is_some (acting P c i b)
  form i a b like =
      two NoThread WrongForm (no_thread c i) (is_none (acting P c i a)) (is_some (acting P c i b)) (there i a)
      (acting_like i (λ x. true) a b like ∙ (is_some-always (acting P c i a) ∙ is_some-not (acting P c i a)))

  split_like : (i point : ℕ) (environment : Environment) (process : Process) → is_some (after_split c i point environment process) ≡ option_map_or (λ x. true) (at_split point environment process) false
  split_like i point environment (Parallel left right) = refl
  split_like i point environment other = refl

  copy_like : (point : ℕ) (environment : Environment) (process : Process) → is_some (after_copy c point environment process) ≡ option_map_or (λ x. true) (at_copy point environment process) false
  copy_like point environment (Replication copied) = refl
  copy_like point environment other = refl

  make_like : (i point : ℕ) (environment : Environment) (process : Process) → is_some (after_make c i point environment process) ≡ option_map_or (λ x. true) (at_make point environment process) false
  make_like i point environment (New word next) = refl
  make_like i point environment other = refl

  mark_like : (i point : ℕ) (environment : Environment) (process : Process) → is_some (after_mark c i point environment process) ≡ option_map_or (λ x. true) (at_mark point environment process) false
  mark_like i point environment (Event performed next) = refl
  mark_like i point environment other = refl

  some_cond : (b : Bool) (d : Configuration) → is_some (cond b (Some d) None) ≡ b
  some_cond true d = refl
  some_cond false d = refl

  hear_like : (i point : ℕ) (environment : Environment) (process : Process) → is_some (after_hear c i point environment process) ≡ option_map_or (knows c) (at_output point environment process) false
  hear_like i point environment (Output channel message next) = some_cond (knows c (value_of environment channel)) (learns (goes_on c i (At (point + 1) environment)) (value_of environment message))
  hear_like i point environment other = refl

  say_like : (j : ℕ) (v : Value) (point : ℕ) (environment : Environment) (process : Process) → is_some (after_say c j v point environment process) ≡ option_map_or (knows c) (at_input point environment process) false
  say_like j v point environment (Input channel pattern next) = some_cond (knows c (value_of environment channel)) (goes_on c j (received point environment (matched environment pattern v)))
  say_like j v point environment other = refl

  receipt_like : (i j : ℕ) (sent : Thread) (channel message : Value) (point : ℕ) (environment : Environment) (process : Process) → is_some (after_receipt c i j sent channel message point environment process) ≡ option_map_or (same_value channel) (at_input point environment process) false
  receipt_like i j sent channel message point environment (Input on pattern next) = some_cond (same_value channel (value_of environment on)) (goes_on (goes_on c i sent) j (received point environment (matched environment pattern message)))
  receipt_like i j sent channel message point environment other = refl

  pass_like : (i j point : ℕ) (environment : Environment) (process : Process) → is_some (after_pass P c i j point environment process) ≡ option_map_or (λ channel. option_map_or (same_value channel) (acting P c j at_input) false) (at_output point environment process) false
  pass_like i j point environment (Output channel message next) =
      acting_like j (same_value (value_of environment channel)) at_input (after_receipt c i j (At (point + 1) environment) (value_of environment channel) (value_of environment message))
      (receipt_like i j (At (point + 1) environment) (value_of environment channel) (value_of environment message))
  pass_like i j point environment other = refl

  take_like : (i : ℕ) (label : List ℕ) (point : ℕ) (environment : Environment) (process : Process) → is_some (after_take P c i label point environment process) ≡ option_map_or (λ matches. matches) (at_take P label point environment process) false
  take_like i label point environment (Let pattern expression next otherwise) =
      is_some-map (λ bindings. goes_on c i (At (point + 1) (environment ++ bindings))) (option_and_then (matched environment pattern) (value_at P environment expression label))
  take_like i label point environment other = refl

  fail_cond : (b : Bool) (d : Configuration) → is_some (cond b None (Some d)) ≡ not b
  fail_cond true d = refl
  fail_cond false d = refl

  fail_like : (i point : ℕ) (environment : Environment) (process : Process) → is_some (after_fail P c i point environment process) ≡ option_map_or (λ matches. not matches) (at_fail P point environment process) false
  fail_like i point environment (Let pattern expression next otherwise) =
      fail_cond (list_any (λ v. is_some (matched environment pattern v)) (values_at P environment expression)) (goes_on c i (At (point_after (point + 1) next) environment))
  fail_like i point environment other = refl

  put_like : (i point : ℕ) (environment : Environment) (process : Process) → is_some (after_put c i point environment process) ≡ option_map_or (λ x. true) (at_put point environment process) false
  put_like i point environment (Insert table arguments next) = refl
  put_like i point environment other = refl

  fetch_like : (i e point : ℕ) (environment : Environment) (process : Process) → is_some (after_fetch c i e point environment process) ≡ option_map_or (λ matches. matches) (at_fetch c e point environment process) false
  fetch_like i e point environment (Get table patterns condition next otherwise) =
      is_some-map (λ bindings. goes_on c i (At (point + 1) (environment ++ bindings))) (option_and_then (matched_entry environment table patterns condition) (numbered c.entries e))
  fetch_like i e point environment other = refl

  miss_like : (i point : ℕ) (environment : Environment) (process : Process) → is_some (after_miss c i point environment process) ≡ option_map_or (λ matches. not matches) (at_miss c point environment process) false
  miss_like i point environment (Get table patterns condition next otherwise) =
      fail_cond (list_any (λ held. is_some (matched_entry environment table patterns condition held)) c.entries) (goes_on c i (At (point_after (point + 1) next) environment))
  miss_like i point environment other = refl

  raising : (b : Bool) (d : Configuration) → is_none (first_cause (where_true WrongForm (not b) ∷ [])) ≡ is_some (cond b (Some d) None)
  raising true d = refl
  raising false d = refl

  -- both threads of a communication
  both : (i j : ℕ) (o p : Option Value) (ti tj : Bool) → (is_none o ≡ false → ti ≡ false) → (is_none p ≡ false → tj ≡ false) → is_none (first_cause (
      where_true NoThread (ti || tj) ∷ where_true WrongForm (is_none o || is_none p)
      ∷ where_true ChannelsDiffer (not (option_map_or (λ channel. option_map_or (same_value channel) p false) o false)) ∷ [])) ≡ option_map_or (λ channel. option_map_or (same_value channel) p false) o false
  both i j o p ti tj g h =
      three NoThread WrongForm ChannelsDiffer (ti || tj) (is_none o || is_none p) (option_map_or (λ channel. option_map_or (same_value channel) p false) o false) (shown o p) (threads o p g h)
    where
      shown : (o p : Option Value) → option_map_or (λ channel. option_map_or (same_value channel) p false) o false ≡ true → (is_none o || is_none p) ≡ false
      shown None p e = cc
      shown (Some channel) None e = cc
      shown (Some channel) (Some on) e = refl

      threads : (o p : Option Value) → (is_none o ≡ false → ti ≡ false) → (is_none p ≡ false → tj ≡ false) → (is_none o || is_none p) ≡ false → (ti || tj) ≡ false
      threads None p k l e = cc
      threads (Some x) None k l e = cc
      threads (Some x) (Some y) k l e = let a = k refl in let b = l refl in cc

  failing : (t : Bool) (o : Option Bool) → (is_none o ≡ false → t ≡ false) → is_none (first_cause (where_true NoThread t ∷ where_true WrongForm (is_none o) ∷ where_true NotFailing (option_map_or (λ matches. matches) o false) ∷ [])) ≡ option_map_or (λ matches. not matches) o false
  failing true None h = refl
  failing true (Some b) h = let bad = h refl in cc
  failing false None h = refl
  failing false (Some true) h = refl
  failing false (Some false) h = refl

  -- a send to a thread wants the known value too
  saying : (j : ℕ) (o : Option Value) → is_some (option_and_then (λ v. acting P c j (after_say c j v)) o) ≡ (not (is_none o) && option_map_or (knows c) (acting P c j at_input) false)
  saying j None = refl
  saying j (Some v) = acting_like j (knows c) at_input (after_say c j v) (say_like j v)

  -- a constructor
  can_build-parts : (f count : ℕ) → can_build P f count ≡ (takes P f count && is_public_constructor P f)
  can_build-parts zero count = plain (nat_le 2 count && nat_le count most_arguments)
    where
      plain : (b : Bool) → b ≡ (b && true)
      plain true = refl
      plain false = refl
  can_build-parts (suc f) count = declared (numbered P.constructors (suc f))
    where
      swapped : (a b : Bool) → (a && b) ≡ (b && a)
      swapped true true = refl
      swapped true false = refl
      swapped false true = refl
      swapped false false = refl

      declared : (o : Option Declared) → option_map_or (λ d. d.public && nat_eq d.arity count) o false ≡ (option_map_or (λ d. nat_eq d.arity count) o false && option_map_or (λ d. d.public) o false)
      declared None = refl
      declared (Some d) = swapped d.public (nat_eq d.arity count)

  building : (takes_all is_public : Bool) (o : Option (List Value)) (f : ℕ) → is_none (first_cause (where_true WrongForm (not takes_all) ∷ where_true NoKnowledge (is_none o) ∷ where_true NotPublic (not is_public) ∷ [])) ≡ is_some (cond (takes_all && is_public) (option_map (λ vs. learns c (built f vs)) o) None)
  building true true None f = refl
  building true true (Some vs) f = refl
  building true false None f = refl
  building true false (Some vs) f = refl
  building false is_public o f = refl

  -- a rule
  known_values-length : (ks : List ℕ) (vs : List Value) → known_values c ks ≡ Some vs → length vs ≡ length ks
  known_values-length [] vs h = let e : [] ≡ vs = empty vs h in sym (ap length e)
    where
      empty : (vs : List Value) → Some [] ≡ Some vs → [] ≡ vs
      empty vs h = cc
  known_values-length (k ∷ ks) vs h = joined (numbered c.known k) (known_values c ks) vs h (λ ws e. known_values-length ks ws e)
    where
      joined : (o : Option Value) (p : Option (List Value)) (vs : List Value) → option_and_then (λ v. option_map (λ ws. v ∷ ws) p) o ≡ Some vs → ((ws : List Value) → p ≡ Some ws → length ws ≡ length ks) → length vs ≡ suc (length ks)
      joined None p vs e own = cc
      joined (Some v) None vs e own = cc
      joined (Some v) (Some ws) vs e own = let is : v ∷ ws ≡ vs = cc in sym (ap length is) ∙ ap suc (own ws refl)

  uniform_at : (rules : List Rule) (r : ℕ) (rule : Rule) → AreUniform rules → numbered rules r ≡ Some rule → first_arity rules (length rule.left) ≡ true
  uniform_at [] zero rule h at = cc
  uniform_at [] (suc r) rule h at = cc
  uniform_at (first ∷ rules) zero rule h at = cc
  uniform_at (first ∷ rules) (suc zero) rule h at = let e : first ≡ rule = cc in eq-eqb (length first.left) (length rule.left) (ap (λ (x : Rule). length x.left) e)
  uniform_at (first ∷ rules) (suc (suc r)) rule h at =
      let same : length rule.left ≡ length first.left = if_some-is (λ (x : Rule). length x.left ≡ length first.left) (slice_get rules r) rule (each-slice_get (λ (x : Rule). length x.left ≡ length first.left) rules r h) at in
      eq-eqb (length first.left) (length rule.left) (sym same)

  -- where the rule gives a value, the destructor takes that many
  arity_of : (rules : List Rule) (r : ℕ) (ks : List ℕ) → AreUniform rules → (o : Option Rule) → numbered rules r ≡ o → (p : Option (List Value)) → known_values c ks ≡ p → option_map_or (λ rule. is_some (option_and_then (rule_value rule) p)) o false ≡ true → (first_arity rules (length ks) ≡ true) × (is_none p ≡ false)
  arity_of rules r ks uniform None at p known h = cc
  arity_of rules r ks uniform (Some rule) at None known h = cc
  arity_of rules r ks uniform (Some rule) at (Some vs) known h = (given (rule_value rule vs) refl h, refl)
    where
      given : (o : Option Value) → rule_value rule vs ≡ o → is_some o ≡ true → first_arity rules (length ks) ≡ true
      given None e k = cc
      given (Some v) e k =
          let found = rule_value-sound rule vs v e in
          let same : length rule.left ≡ length ks = sym (length-map rule.left (instance_of found.0)) ∙ (ap length found.1 ∙ known_values-length ks vs known) in
          subst (λ (n : ℕ). first_arity rules n ≡ true) same (uniform_at rules r rule uniform at)

  reducing : (a : Bool) (n k : Bool) → (k ≡ true → (a ≡ true) × (n ≡ false)) → is_none (first_cause (where_true WrongForm (not a) ∷ where_true NoKnowledge n ∷ where_true NoRule (not k) ∷ [])) ≡ k
  reducing true true true h = let bad = (h refl).1 in cc
  reducing true true false h = refl
  reducing true false true h = refl
  reducing true false false h = refl
  reducing false n true h = let bad = (h refl).0 in cc
  reducing false n false h = refl

  reduced : (d r : ℕ) (ks : List ℕ) (o : Option Rule) → is_some (option_and_then (λ rule. option_map (learns c) (option_and_then (rule_value rule) (known_values c ks))) o) ≡ option_map_or (λ rule. is_some (option_and_then (rule_value rule) (known_values c ks))) o false
  reduced d r ks None = refl
  reduced d r ks (Some rule) = is_some-map (learns c) (option_and_then (rule_value rule) (known_values c ks))

  -- a step is possible exactly where nothing refuses it
  pub refused_exactly : IsUniform P → (step : Step) → is_none (refusal P c step) ≡ is_some (after_step P c step)
  refused_exactly uniform (Build f ks) =
      building (takes P f (length ks)) (is_public_constructor P f) (known_values c ks) f
      ∙ ap (λ b. is_some (cond b (option_map (λ vs. learns c (built f vs)) (known_values c ks)) None)) (sym (can_build-parts f (length ks)))
  refused_exactly uniform (Reduce d r ks) =
      reducing (first_arity (rules_of P d) (length ks)) (is_none (known_values c ks)) (reduces P c d r ks)
      (λ h. arity_of (rules_of P d) r ks (uniform d) (numbered (rules_of P d) r) refl (known_values c ks) refl h)
      ∙ sym (reduced d r ks (numbered (rules_of P d) r))
  refused_exactly uniform (Part k i) =
      two NoKnowledge WrongForm (is_none (numbered c.known k)) (is_none (option_and_then (part_of P i) (numbered c.known k)))
      (is_some (option_map (learns c) (option_and_then (part_of P i) (numbered c.known k))))
      (none_of_none (part_of P i) (numbered c.known k))
      (is_some-map (learns c) (option_and_then (part_of P i) (numbered c.known k)) ∙ is_some-not (option_and_then (part_of P i) (numbered c.known k)))
  refused_exactly uniform Fresh = refl
  refused_exactly uniform (Split i) = form i at_split (after_split c i) (split_like i)
  refused_exactly uniform (Copy i) = form i at_copy (after_copy c) copy_like
  refused_exactly uniform (Make i) = form i at_make (after_make c i) (make_like i)
  refused_exactly uniform (Pass i j) =
      both i j (acting P c i at_output) (acting P c j at_input) (no_thread c i) (no_thread c j) (there i at_output) (there j at_input)
      ∙ sym (acting_like i (λ channel. option_map_or (same_value channel) (acting P c j at_input) false) at_output (after_pass P c i j) (pass_like i j))
  refused_exactly uniform (Hear i) =
      three NoThread WrongForm UnknownChannel (no_thread c i) (is_none (acting P c i at_output)) (option_map_or (knows c) (acting P c i at_output) false)
      (shows (knows c) (acting P c i at_output)) (there i at_output)
      ∙ sym (acting_like i (knows c) at_output (after_hear c i) (hear_like i))
  refused_exactly uniform (Say j k) =
      four NoThread WrongForm UnknownChannel NoKnowledge (no_thread c j) (is_none (acting P c j at_input)) (option_map_or (knows c) (acting P c j at_input) false) (is_none (numbered c.known k))
      (shows (knows c) (acting P c j at_input)) (there j at_input)
      ∙ sym (saying j (numbered c.known k))
  refused_exactly uniform (Take i label) =
      three NoThread WrongForm NoRule (no_thread c i) (is_none (acting P c i (at_take P label))) (option_map_or (λ matches. matches) (acting P c i (at_take P label)) false)
      (shows (λ matches. matches) (acting P c i (at_take P label))) (there i (at_take P label))
      ∙ sym (acting_like i (λ matches. matches) (at_take P label) (after_take P c i label) (take_like i label))
  refused_exactly uniform (Fail i) =
      failing (no_thread c i) (acting P c i (at_fail P)) (there i (at_fail P))
      ∙ sym (acting_like i (λ matches. not matches) (at_fail P) (after_fail P c i) (fail_like i))
  refused_exactly uniform (Mark i) = form i at_mark (after_mark c i) (mark_like i)
  refused_exactly uniform Next = raising (nat_lt c.phase (greatest_phase P.main)) (raised P c)
  refused_exactly uniform (Put i) = form i at_put (after_put c i) (put_like i)
  refused_exactly uniform (Fetch i e) =
      three NoThread WrongForm NoEntry (no_thread c i) (is_none (acting P c i (at_fetch c e))) (option_map_or (λ matches. matches) (acting P c i (at_fetch c e)) false)
      (shows (λ matches. matches) (acting P c i (at_fetch c e))) (there i (at_fetch c e))
      ∙ sym (acting_like i (λ matches. matches) (at_fetch c e) (after_fetch c i e) (fetch_like i e))
  refused_exactly uniform (Miss i) =
      failing (no_thread c i) (acting P c i (at_miss c)) (there i (at_miss c))
      ∙ sym (acting_like i (λ matches. not matches) (at_miss c) (after_miss c i) (miss_like i))

-- the same as a fact
pub refusals_are_exact : (P : Protocol) (c : Configuration) (step : Step) → IsUniform P → IsNone (refusal P c step) ↔ IsSome (after_step P c step)
refusals_are_exact P c step uniform = both_ways (refusal P c step) (after_step P c step) (refused_exactly P c uniform step)
  where
    both_ways : (o : Option Refusal) (p : Option Configuration) → is_none o ≡ is_some p → IsNone o ↔ IsSome p
    both_ways None p e = (λ h. sym e, λ h. refl)
    both_ways (Some r) p e = (λ h. cc, λ h. cc)
