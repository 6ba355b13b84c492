-- What each step of the compilation keeps: a property of the configuration and of the steps that each step keeps is kept by all that the
-- compilation does, since it adds to them by steps alone.
use Rattle.std.proofs.Common.{ℕ, zero, suc, ◌+◌, ◌-◌, nat_eq, nat_lt, not, Bool, true, false, List, [], ◌∷◌, ◌++◌, length, take, filter, cond, Option, None, Some, IfSome, option_and_then, option_map}
use Rattle.std.specs.List.{find}
use Rattle.std.specs.Option.{option_map_or}
use Rattle.spec_trees.specs.Tree.{Trees, Leaf, Node, none, more, trees}
use Rattle.spec_calculus.specs.Syntax.{Process, Nil, Output, Input, Parallel, Replication, New, Let, Event, Phase, Insert, Get, Protocol}
use Rattle.spec_calculus.specs.Points.{point_after}
use Rattle.spec_calculus.specs.Values.{MadeName, Value}
use Rattle.spec_calculus.specs.Runs.{Configuration, Step, Build, Reduce, Fresh, Split, Copy, Make, Pass, Hear, Say, Take, Fail, Mark, Next, Put, Fetch, Miss, acting, knows}
use Rattle.spec_calculus.specs.Refusals.{at_output, at_input}
use Rattle.spec_calculus.proofs.Items.{if_some-choice, if_some-then, if_some-map}
use Rattle.spec_terms.specs.Term.{Sym, Ctor, Data, Tuple, Free, Point, Attacker, Term}
use Rattle.spec_translation.specs.Conversion.{name_term}
use Rattle.spec_attack_runs.specs.Source.{Choice, Taken, Else, Action, Idle, Builds, Reduces, Reaches, Source}
use Rattle.spec_attack_runs.specs.Compiling.{Done, State, stepped, all_stepped, new_parts, take_step, closed_value, closed_values, first_number, place_in, made_known, with_name, names_it, placed_root, or_else, placed, row_placed}
use Rattle.spec_attack_runs.specs.Walking.{Walk, start_walk, stands_at, acts_at, plain_node, same_place, same_deed, noted, unless_done, once, goes_below, below, next_of, sends, offers, passed, hears_on, receives, makes, chooses, is_entry, fetches, begin, with_message, with_copy, with_choice, with_entry, turns, branch, taken_messages, walked}
use Rattle.spec_attack_runs.specs.Attack.{supposed, acted, compiled, all_compiled}

-- what is made of an option whose value, if it has one, has a property
module _ {A B : Type 0} (Q : A → Type 0) (R : B → Type 0) where
  pub then_keeps : (f : A → Option B) (o : Option A) → IfSome o Q → ((x : A) → Q x → IfSome (f x) R) → IfSome (option_and_then f o) R
  then_keeps f None h k = tt
  then_keeps f (Some x) h k = k x h

  pub map_keeps : (f : A → B) (o : Option A) → IfSome o Q → ((x : A) → Q x → R (f x)) → IfSome (option_map f o) R
  map_keeps f None h k = tt
  map_keeps f (Some x) h k = k x h

or_else_keeps : {A : Type 0} (Q : A → Type 0) (o : Option A) (other : Unit {0} → Option A) → IfSome o Q → IfSome (other tt) Q → IfSome (or_else o other) Q
or_else_keeps Q None other h k = k
or_else_keeps Q (Some x) other h k = h

module _ (P : Protocol) (Q : Configuration → List Step → Type 0) (kept : (step : Step) (st : State) → Q st.configuration st.steps → IfSome (stepped P step st) (λ next. Q next.configuration next.steps)) where
  abbrev pub Kept : State → Type 0
  Kept st = Q st.configuration st.steps

  -- a state beside what is told with it
  abbrev pub Beside : {A : Type 0} → A × State → Type 0
  Beside x = Kept x.1

  pub all_stepped_keeps : (steps : List Step) (st : State) → Kept st → IfSome (all_stepped P steps st) Kept
  all_stepped_keeps [] st h = h
  all_stepped_keeps (step ∷ steps) st h =
      then_keeps Kept Kept (all_stepped P steps) (stepped P step st) (kept step st h) (λ next k. all_stepped_keeps steps next k)

  pub take_step_keeps : (step : Step) (st : State) → Kept st → IfSome (take_step P step st) Kept
  unfolding take_step
  take_step_keeps step st h =
      then_keeps Kept Kept (λ next. all_stepped P (new_parts P (length st.configuration.known) next) next) (stepped P step st) (kept step st h)
      (λ next k. all_stepped_keeps (new_parts P (length st.configuration.known) next) next k)

  pub made_known_keeps : (step : Step) (st : State) → Kept st → IfSome (made_known P step st) Beside
  made_known_keeps step st h =
      map_keeps Kept Beside (λ next. (length st.configuration.known + 1, next)) (take_step P step st) (take_step_keeps step st h) (λ next k. k)

  -- data that is built of parts
  pub built_keeps : (f : ℕ) (parts : State → Option (List ℕ × State)) (st : State) → Kept st
      → ((s : State) → Kept s → IfSome (parts s) Beside) → IfSome (option_and_then (λ ks. made_known P (Build f ks.0) ks.1) (parts st)) Beside
  built_keeps f parts st h kept =
      then_keeps Beside Beside (λ (ks : List ℕ × State). made_known P (Build f ks.0) ks.1) (parts st) (kept st h) (λ ks k. made_known_keeps (Build f ks.0) ks.1 k)

  pub placed_root_keeps : (t : Term) (f : Sym) (parts : State → Option (List ℕ × State)) (st : State) → Kept st
      → ((s : State) → Kept s → IfSome (parts s) Beside) → IfSome (placed_root P t f parts st) Beside
  placed_root_keeps t (Ctor f) parts st h kept = tt
  placed_root_keeps t (Data f) parts st h kept = built_keeps f parts st h kept
  placed_root_keeps t (Tuple n) parts st h kept = built_keeps 0 parts st h kept
  placed_root_keeps t (Free n) parts st h kept = tt
  placed_root_keeps t (Point p) parts st h kept = tt
  placed_root_keeps t Attacker parts st h kept =
      map_keeps Beside Beside (names_it st.configuration.next t) (made_known P Fresh st) (made_known_keeps Fresh st h) (λ made k. k)

  mutual
    unfolding placed

    pub placed_keeps : (t : Term) (st : State) → Kept st → IfSome (placed P t st) Beside
    placed_keeps (Leaf x) st h = tt
    placed_keeps (Node f ts) st h = or_else_keeps Beside (option_map (λ k. (k, st)) (place_in st (Node f ts)))
        (λ u. placed_root P (Node f ts) f (row_placed P ts) st)
        (if_some-map Beside (λ k. (k, st)) (place_in st (Node f ts)) (λ k is. h))
        (placed_root_keeps (Node f ts) f (row_placed P ts) st h (λ s k. row_placed_keeps ts s k))

    pub row_placed_keeps : (ts : Trees ℕ Sym) (st : State) → Kept st → IfSome (row_placed P ts st) Beside
    row_placed_keeps none st h = h
    row_placed_keeps (more t ts) st h =
        then_keeps Beside Beside (λ (first : ℕ × State). option_map (λ (others : List ℕ × State). (first.0 ∷ others.0, others.1)) (row_placed P ts first.1)) (placed P t st) (placed_keeps t st h)
        (λ first k. map_keeps Beside Beside (λ (others : List ℕ × State). (first.0 ∷ others.0, others.1)) (row_placed P ts first.1) (row_placed_keeps ts first.1 k) (λ others l. l))

  -- the walk
  pub acts_at_keeps : (point : ℕ) (walk : Walk) (step : Step) (st : State) → Kept st → IfSome (acts_at P point walk step st) Kept
  acts_at_keeps point walk step st h =
      if_some-choice Kept (stands_at st.configuration walk.thread point) (take_step P step st) None (take_step_keeps step st h) tt

  pub unless_done_keeps : (st : State) (node : Done) (did : Option State) (found : Option Done) → Kept st → IfSome did Kept → IfSome (unless_done st node did found) Beside
  unless_done_keeps st node did None h k = map_keeps Kept Beside (noted node) did k (λ next l. l)
  unless_done_keeps st node did (Some done) h k = if_some-choice Beside (same_deed node done) (Some (done, st)) None h tt

  pub once_keeps : (st : State) (node : Done) (did : Option State) → Kept st → IfSome did Kept → IfSome (once st node did) Beside
  unfolding once
  once_keeps st node did h k = unless_done_keeps st node did (find (same_place node) st.done) h k

  pub goes_below_keeps : (last : Bool) (done : Done) (st : State) (go : Done → State → Option State) → Kept st
      → ((d : Done) (s : State) → Kept s → IfSome (go d s) Kept) → IfSome (goes_below last done st go) Kept
  goes_below_keeps true done st go h k = h
  goes_below_keeps false done st go h k = k done st h

  pub below_keeps : (point : ℕ) (walk : Walk) (go : Done → State → Option State) (o : Option (Done × State)) → IfSome o Beside
      → ((d : Done) (s : State) → Kept s → IfSome (go d s) Kept) → IfSome (below point walk go o) Kept
  below_keeps point walk go None h k = tt
  below_keeps point walk go (Some x) h k = goes_below_keeps (nat_eq point walk.ahead.point) x.0 x.1 go h k

  pub next_of_keeps : {A : Type 0} (xs : List A) (go : A → List A → Option State) → ((y : A) (ys : List A) → IfSome (go y ys) Kept) → IfSome (next_of xs go) Kept
  next_of_keeps [] go k = tt
  next_of_keeps (x ∷ xs) go k = k x xs

  pub sends_keeps : (point : ℕ) (walk : Walk) (st : State) → Kept st → IfSome (sends P point walk st) Kept
  sends_keeps point walk st h =
      let waits : State = record st { waiting = st.waiting ++ walk.thread ∷ [] } in
      let heard : Bool = option_map_or (knows st.configuration) (acting P st.configuration walk.thread at_output) false in
      if_some-choice Kept (stands_at st.configuration walk.thread point) (cond heard (take_step P (Hear walk.thread) st) (Some waits)) None
      (if_some-choice Kept heard (take_step P (Hear walk.thread) st) (Some waits) (take_step_keeps (Hear walk.thread) st h) h) tt

  pub passed_keeps : (point : ℕ) (walk : Walk) (channel message : Value) (st : State) → Kept st → IfSome (passed P point walk channel message st) Kept
  passed_keeps point walk channel message st h =
      if_some-then Kept (λ i. acts_at P point walk (Pass i walk.thread) (record st { waiting = filter (λ j. not (nat_eq i j)) st.waiting })) (find (offers P st.configuration channel message) st.waiting)
      (λ i is. acts_at_keeps point walk (Pass i walk.thread) (record st { waiting = filter (λ j. not (nat_eq i j)) st.waiting }) h)

  pub hears_on_keeps : (point : ℕ) (walk : Walk) (message : Term) (st : State) (channel : Value) (known : Bool) → Kept st → IfSome (hears_on P point walk message st channel known) Kept
  hears_on_keeps point walk message st channel true h =
      then_keeps Beside Kept (λ (k : ℕ × State). acts_at P point walk (Say walk.thread k.0) k.1) (placed P message st) (placed_keeps message st h) (λ k l. acts_at_keeps point walk (Say walk.thread k.0) k.1 l)
  hears_on_keeps point walk message st channel false h =
      if_some-then Kept (λ v. passed P point walk channel v st) (closed_value st.names message) (λ v is. passed_keeps point walk channel v st h)

  pub receives_keeps : (point : ℕ) (walk : Walk) (message : Term) (st : State) → Kept st → IfSome (receives P point walk message st) Kept
  receives_keeps point walk message st h =
      if_some-then Kept (λ channel. hears_on P point walk message st channel (knows st.configuration channel)) (acting P st.configuration walk.thread at_input)
      (λ channel is. hears_on_keeps point walk message st channel (knows st.configuration channel) h)

  pub makes_keeps : (point : ℕ) (walk : Walk) (st : State) → Kept st → IfSome (makes P point walk st) Kept
  makes_keeps point walk st h =
      map_keeps Kept Kept (with_name (name_term point walk.received walk.copied) (Leaf (MadeName point st.configuration.next))) (acts_at P point walk (Make walk.thread) st)
      (acts_at_keeps point walk (Make walk.thread) st h) (λ next k. k)

  pub chooses_keeps : (point : ℕ) (walk : Walk) (choice : Choice) (st : State) → Kept st → IfSome (chooses P point walk choice st) Kept
  chooses_keeps point walk (Taken label) st h = acts_at_keeps point walk (Take walk.thread label) st h
  chooses_keeps point walk Else st h = acts_at_keeps point walk (Fail walk.thread) st h

  pub fetches_keeps : (point : ℕ) (walk : Walk) (table : ℕ) (choice : Choice) (terms : List Term) (st : State) → Kept st → IfSome (fetches P point walk table choice terms st) Kept
  fetches_keeps point walk table (Taken label) terms st h =
      if_some-then Kept (λ values. option_and_then (λ e. acts_at P point walk (Fetch walk.thread e) st) (first_number (is_entry table values) st.configuration.entries)) (closed_values st.names (trees terms))
      (λ values is. if_some-then Kept (λ e. acts_at P point walk (Fetch walk.thread e) st) (first_number (is_entry table values) st.configuration.entries) (λ e at. acts_at_keeps point walk (Fetch walk.thread e) st h))
  fetches_keeps point walk table Else terms st h = acts_at_keeps point walk (Miss walk.thread) st h

  pub begin_keeps : (count : ℕ) (st : State) → Kept st → IfSome (begin P count st) Kept
  begin_keeps zero st h = h
  begin_keeps (suc count) st h =
      then_keeps Kept Kept (begin P count) (take_step P Next st) (take_step_keeps Next st h) (λ next k. begin_keeps count next k)

  pub turns_keeps : (b : Bool) (left right : Unit {0} → Option State) → IfSome (left tt) Kept → IfSome (right tt) Kept → IfSome (turns b left right) Kept
  turns_keeps true left right h k = h
  turns_keeps false left right h k = k

  pub branch_keeps : (choice : Choice) (next otherwise : Unit {0} → Option State) → IfSome (next tt) Kept → IfSome (otherwise tt) Kept → IfSome (branch choice next otherwise) Kept
  branch_keeps (Taken label) next otherwise h k = h
  branch_keeps Else next otherwise h k = k

  pub walked_keeps : (process : Process) (point : ℕ) (walk : Walk) (st : State) → Kept st → IfSome (walked P process point walk st) Kept
  unfolding walked
  walked_keeps Nil point walk st h = tt
  walked_keeps (Output channel message next) point walk st h =
      below_keeps point walk (λ done s. walked P next (point + 1) walk s) (once st (plain_node point walk) (sends P point walk st))
      (once_keeps st (plain_node point walk) (sends P point walk st) h (sends_keeps point walk st h))
      (λ done s k. walked_keeps next (point + 1) walk s k)
  walked_keeps (Input channel pattern next) point walk st h = next_of_keeps walk.ahead.messages (λ t ts.
      below point walk (λ done s. walked P next (point + 1) (with_message walk t ts) s)
      (once st (record (plain_node point walk) { messages = t ∷ [] }) (receives P point walk t st)))
      (λ t ts. below_keeps point walk (λ done s. walked P next (point + 1) (with_message walk t ts) s)
      (once st (record (plain_node point walk) { messages = t ∷ [] }) (receives P point walk t st))
      (once_keeps st (record (plain_node point walk) { messages = t ∷ [] }) (receives P point walk t st) h (receives_keeps point walk t st h))
      (λ done s k. walked_keeps next (point + 1) (with_message walk t ts) s k))
  walked_keeps (Parallel left right) point walk st h =
      let node : Done = record (plain_node point walk) { other = length st.configuration.threads + 1 } in
      below_keeps point walk (λ done s. turns (nat_lt walk.ahead.point (point_after (point + 1) left))
      (λ u. walked P left (point + 1) walk s) (λ u. walked P right (point_after (point + 1) left) (record walk { thread = done.other }) s))
      (once st node (acts_at P point walk (Split walk.thread) st))
      (once_keeps st node (acts_at P point walk (Split walk.thread) st) h (acts_at_keeps point walk (Split walk.thread) st h))
      (λ done s k. turns_keeps (nat_lt walk.ahead.point (point_after (point + 1) left))
      (λ u. walked P left (point + 1) walk s) (λ u. walked P right (point_after (point + 1) left) (record walk { thread = done.other }) s)
      (walked_keeps left (point + 1) walk s k) (walked_keeps right (point_after (point + 1) left) (record walk { thread = done.other }) s k))
  walked_keeps (Replication copied) point walk st h = next_of_keeps walk.ahead.sessions (λ t ts.
      below point walk (λ done s. walked P copied (point + 1) (with_copy walk done.other t ts) s)
      (once st (record (plain_node point walk) { sessions = walk.copied ++ t ∷ []; other = length st.configuration.threads + 1 })
      (acts_at P point walk (Copy walk.thread) st)))
      (λ t ts. let node : Done = record (plain_node point walk) { sessions = walk.copied ++ t ∷ []; other = length st.configuration.threads + 1 } in
      below_keeps point walk (λ done s. walked P copied (point + 1) (with_copy walk done.other t ts) s)
      (once st node (acts_at P point walk (Copy walk.thread) st))
      (once_keeps st node (acts_at P point walk (Copy walk.thread) st) h (acts_at_keeps point walk (Copy walk.thread) st h))
      (λ done s k. walked_keeps copied (point + 1) (with_copy walk done.other t ts) s k))
  walked_keeps (New word next) point walk st h =
      below_keeps point walk (λ done s. walked P next (point + 1) walk s) (once st (plain_node point walk) (makes P point walk st))
      (once_keeps st (plain_node point walk) (makes P point walk st) h (makes_keeps point walk st h))
      (λ done s k. walked_keeps next (point + 1) walk s k)
  walked_keeps (Let pattern expression next otherwise) point walk st h = next_of_keeps walk.ahead.choices (λ choice rest.
      below point walk (λ done s. branch choice (λ u. walked P next (point + 1) (with_choice walk rest) s)
      (λ u. walked P otherwise (point_after (point + 1) next) (with_choice walk rest) s))
      (once st (record (plain_node point walk) { choice = choice }) (chooses P point walk choice st)))
      (λ choice rest. below_keeps point walk (λ done s. branch choice (λ u. walked P next (point + 1) (with_choice walk rest) s)
      (λ u. walked P otherwise (point_after (point + 1) next) (with_choice walk rest) s))
      (once st (record (plain_node point walk) { choice = choice }) (chooses P point walk choice st))
      (once_keeps st (record (plain_node point walk) { choice = choice }) (chooses P point walk choice st) h (chooses_keeps point walk choice st h))
      (λ done s k. branch_keeps choice (λ u. walked P next (point + 1) (with_choice walk rest) s)
      (λ u. walked P otherwise (point_after (point + 1) next) (with_choice walk rest) s)
      (walked_keeps next (point + 1) (with_choice walk rest) s k) (walked_keeps otherwise (point_after (point + 1) next) (with_choice walk rest) s k)))
  walked_keeps (Event performed next) point walk st h =
      below_keeps point walk (λ done s. walked P next (point + 1) walk s) (once st (plain_node point walk) (acts_at P point walk (Mark walk.thread) st))
      (once_keeps st (plain_node point walk) (acts_at P point walk (Mark walk.thread) st) h (acts_at_keeps point walk (Mark walk.thread) st h))
      (λ done s k. walked_keeps next (point + 1) walk s k)
  walked_keeps (Phase number next) point walk st h =
      below_keeps point walk (λ done s. walked P next (point + 1) walk s) (once st (plain_node point walk) (begin P (number - st.configuration.phase) st))
      (once_keeps st (plain_node point walk) (begin P (number - st.configuration.phase) st) h (begin_keeps (number - st.configuration.phase) st h))
      (λ done s k. walked_keeps next (point + 1) walk s k)
  walked_keeps (Insert table arguments next) point walk st h =
      below_keeps point walk (λ done s. walked P next (point + 1) walk s) (once st (plain_node point walk) (acts_at P point walk (Put walk.thread) st))
      (once_keeps st (plain_node point walk) (acts_at P point walk (Put walk.thread) st) h (acts_at_keeps point walk (Put walk.thread) st h))
      (λ done s k. walked_keeps next (point + 1) walk s k)
  walked_keeps (Get table patterns condition next otherwise) point walk st h = next_of_keeps walk.ahead.choices (λ choice rest.
      below point walk (λ done s. branch choice (λ u. walked P next (point + 1) (with_entry walk (length patterns) rest) s)
      (λ u. walked P otherwise (point_after (point + 1) next) (with_choice walk rest) s))
      (once st (record (plain_node point walk) { choice = choice; messages = taken_messages choice (take (length patterns) walk.ahead.messages) })
      (fetches P point walk table choice (take (length patterns) walk.ahead.messages) st)))
      (λ choice rest. let terms : List Term = take (length patterns) walk.ahead.messages in
      let node : Done = record (plain_node point walk) { choice = choice; messages = taken_messages choice terms } in
      below_keeps point walk (λ done s. branch choice (λ u. walked P next (point + 1) (with_entry walk (length patterns) rest) s)
      (λ u. walked P otherwise (point_after (point + 1) next) (with_choice walk rest) s))
      (once st node (fetches P point walk table choice terms st))
      (once_keeps st node (fetches P point walk table choice terms st) h (fetches_keeps point walk table choice terms st h))
      (λ done s k. branch_keeps choice (λ u. walked P next (point + 1) (with_entry walk (length patterns) rest) s)
      (λ u. walked P otherwise (point_after (point + 1) next) (with_choice walk rest) s)
      (walked_keeps next (point + 1) (with_entry walk (length patterns) rest) s k) (walked_keeps otherwise (point_after (point + 1) next) (with_choice walk rest) s k)))

  -- the instances
  pub acted_keeps : (terms : List Term) (action : Action) (st : State) → Kept st → IfSome (acted P terms action st) Kept
  acted_keeps terms Idle st h = h
  acted_keeps terms (Builds f) st h =
      then_keeps Beside Kept (λ (ks : List ℕ × State). take_step P (Build f ks.0) ks.1) (row_placed P (trees terms) st) (row_placed_keeps (trees terms) st h) (λ ks k. take_step_keeps (Build f ks.0) ks.1 k)
  acted_keeps terms (Reduces d r) st h =
      then_keeps Beside Kept (λ (ks : List ℕ × State). take_step P (Reduce d r ks.0) ks.1) (row_placed P (trees terms) st) (row_placed_keeps (trees terms) st h) (λ ks k. take_step_keeps (Reduce d r ks.0) ks.1 k)
  acted_keeps terms (Reaches way) st h = walked_keeps P.main 1 (start_walk way) st h

  pub all_compiled_keeps : (instances : List Source) (st : State) → Kept st → IfSome (all_compiled P instances st) Kept
  all_compiled_keeps [] st h = h
  all_compiled_keeps (i ∷ is) st h =
      then_keeps Kept Kept (all_compiled P is) (compiled P i st) (acted_keeps (supposed i.raw) i.action st h) (λ next k. all_compiled_keeps is next k)
