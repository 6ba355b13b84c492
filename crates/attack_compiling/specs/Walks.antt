-- What contracts see of a walk: the thread, what it received and the copies that it comes from, and what is ahead of its way.
use Rattle.std.specs.Prelude.{◌≡◌, ℕ, ◌+◌, ◌-◌, ◌^◌, ◌≤◌, ◌<◌, nat_lt, cond, List, [], ◌∷◌, ◌++◌, Option, None, Some, length, map, take, drop, slice_get, option_map, option_and_then}
use Rattle.spec_calculus.specs.Syntax.{Process, Nil, Output, Input, Parallel, Replication, New, Let, Event, Phase, Insert, Get, Protocol}
use Rattle.spec_calculus.specs.Points.{nodes, point_after}
use Rattle.spec_calculus.specs.Runs.{Split, Copy, Say, Mark, Put}
use Rattle.spec_terms.specs.Term.{Term}
use Rattle.term_tree.specs.Bank.{tree_at, AreKnown}
use Rattle.pi_tree.specs.Processes.{process_of}
use Rattle.pi_tree.specs.Protocols.{protocol_of}
use Rattle.spec_attack_runs.specs.Source.{Choice, Taken, Else, Way}
use Rattle.spec_attack_runs.specs.Walking as spec
use Rattle.spec_attack_runs.specs.Walking.{acts_at, plain_node, once, next_of, sends, receives, makes, chooses, fetches, begin, with_message, with_copy, with_choice, with_entry, taken_messages}
use Rattle.spec_attack_runs.specs.Compiling.{Done, State, placed}
use Rattle.spec_attack_runs.specs.Attack.{most_steps}
use Rattle.attack_state.specs.declared.done.Done.{Done as MadeDone}
use Rattle.attack_state.specs.declared.state.State.{State as MadeState}
use Rattle.attack_state.specs.States.{NamesDone, IsRun, IsState}
use Rattle.attack_compiling.specs.declared.walking.Route.{Route}
use Rattle.attack_compiling.specs.declared.walking.Walk.{Walk}
use Rattle.attack_compiling.specs.declared.walking.Passed.{Passed}
use Rattle.attack_compiling.specs.declared.walking.Passed.TheVariants as went

-- the closed way, and what is ahead of it behind so many messages, copies and choices
abbrev pub ahead_of : List Term → Route → Walk → Way
ahead_of all route walk = record {
  point = route.way.now.point;
  choices = drop walk.choices route.way.now.choices;
  messages = drop walk.messages (map (tree_at all) route.messages.now);
  sessions = drop walk.sessions (map (tree_at all) route.sessions.now);
  phase = route.way.now.phase;
}

-- the whole closed way
abbrev pub way_of : List Term → Route → Way
way_of all route = record route.way.now { messages = map (tree_at all) route.messages.now; sessions = map (tree_at all) route.sessions.now }

abbrev pub walk_of : List Term → Route → Walk → spec.Walk
walk_of all route walk = record {
  thread = walk.thread;
  received = take walk.messages (map (tree_at all) route.messages.now);
  copied = take walk.sessions (map (tree_at all) route.sessions.now);
  ahead = ahead_of all route walk;
}

-- the protocol of a route
abbrev pub protocol_at : Route → Protocol
protocol_at route = protocol_of route.protocol.now

-- the messages and sessions of the route are terms of the bank
pub record IsKnownWay (all : List Term) (route : Route) : Type 0 where
  pub messages : AreKnown all route.messages.now
  pub sessions : AreKnown all route.sessions.now

-- the walk has not left the way, and its process stands at its point, which is of 32 bits as all after it are
pub record IsOnWay (route : Route) (walk : Walk) : Type 0 where
  pub received : walk.messages ≤ length route.messages.now
  pub copied : walk.sessions ≤ length route.sessions.now
  pub points : walk.point + length (nodes (process_of walk.process.now)) ≤ length (nodes (protocol_of route.protocol.now).main) + 1
  pub small : length (nodes (protocol_of route.protocol.now).main) + 1 < 2 ^ 32

-- a message is said that gets a place
abbrev pub said : Protocol → ℕ → spec.Walk → Term → State → Option State
said P point walk message st = option_and_then (λ k. acts_at P point walk (Say walk.thread k.0) k.1) (placed P message st)

-- the entry of these terms is taken at a `get`
abbrev pub fetches_at : Protocol → Process → ℕ → spec.Walk → List Term → State → Option State
fetches_at P (Get table patterns condition next otherwise) point walk terms st = fetches P point walk table (Taken []) terms st
fetches_at P other point walk terms st = None

-- what is done at the node where a walk stands; nothing can be where the way doesn't tell how
abbrev pub act_at : Protocol → Process → ℕ → spec.Walk → State → Option State
act_at P Nil point walk st = None
act_at P (Output channel message next) point walk st = sends P point walk st
act_at P (Input channel pattern next) point walk st = next_of walk.ahead.messages (λ t ts. receives P point walk t st)
act_at P (Parallel left right) point walk st = acts_at P point walk (Split walk.thread) st
act_at P (Replication copied) point walk st = acts_at P point walk (Copy walk.thread) st
act_at P (New word next) point walk st = makes P point walk st
act_at P (Let pattern expression next otherwise) point walk st = next_of walk.ahead.choices (λ choice rest. chooses P point walk choice st)
act_at P (Event performed next) point walk st = acts_at P point walk (Mark walk.thread) st
act_at P (Phase number next) point walk st = begin P (number - st.configuration.phase) st
act_at P (Insert table arguments next) point walk st = acts_at P point walk (Put walk.thread) st
act_at P (Get table patterns condition next otherwise) point walk st =
    next_of walk.ahead.choices (λ choice rest. fetches P point walk table choice (take (length patterns) walk.ahead.messages) st)

-- the node where a choice is made; and where so many messages are taken besides, unless it is the else branch
abbrev pub chosen_node : ℕ → spec.Walk → Choice → Done
chosen_node point walk choice = record (plain_node point walk) { choice = choice }

abbrev pub entry_node : ℕ → spec.Walk → ℕ → Choice → Done
entry_node point walk count choice = record (plain_node point walk) { choice = choice; messages = taken_messages choice (take count walk.ahead.messages) }

-- the node as it will be when it is done, where the next thread has that number
abbrev pub node_at : Process → ℕ → spec.Walk → ℕ → Option Done
node_at Nil point walk other = None
node_at (Input channel pattern next) point walk other = option_map (λ t. record (plain_node point walk) { messages = t ∷ [] }) (slice_get walk.ahead.messages 0)
node_at (Parallel left right) point walk other = Some (record (plain_node point walk) { other = other })
node_at (Replication copied) point walk other = option_map (λ t. record (plain_node point walk) { sessions = walk.copied ++ t ∷ []; other = other }) (slice_get walk.ahead.sessions 0)
node_at (Let pattern expression next otherwise) point walk other = option_map (chosen_node point walk) (slice_get walk.ahead.choices 0)
node_at (Get table patterns condition next otherwise) point walk other = option_map (entry_node point walk (length patterns)) (slice_get walk.ahead.choices 0)
node_at process point walk other = Some (plain_node point walk)

-- the node over ids, if there is one
abbrev pub NamesNode : List Term → Option MadeDone → Option Done → Type 0
NamesNode all None node = node ≡ None
NamesNode all (Some ids) None = ⊥
NamesNode all (Some ids) (Some done) = NamesDone all ids done

-- the node at which a walk stands, done once
abbrev pub once_at : Protocol → Process → ℕ → spec.Walk → State → Option (Done × State)
once_at P process point walk st =
    option_and_then (λ node. once st node (act_at P process point walk st)) (node_at process point walk (length st.configuration.threads + 1))

-- where a walk goes on: the process, its point, and the walk there
abbrev pub Spot : Type 0
Spot = Process × ℕ × spec.Walk

-- what the next of a list gives, and nothing where there is none
abbrev pub with_next : {A : Type 0} → List A → (A → List A → Option Spot) → Option Spot
with_next [] go = None
with_next (x ∷ xs) go = go x xs

-- below a choice: in the branch that was taken, behind so many messages, or in the else branch
abbrev pub branch_at : Process → Process → ℕ → ℕ → spec.Walk → Choice → List Choice → Spot
branch_at next otherwise count point walk (Taken label) rest = (next, point + 1, with_entry walk count rest)
branch_at next otherwise count point walk Else rest = (otherwise, point_after (point + 1) next, with_choice walk rest)

abbrev pub branches_at : Process → Process → ℕ → ℕ → spec.Walk → Option Spot
branches_at next otherwise count point walk = with_next walk.ahead.choices (λ choice rest. Some (branch_at next otherwise count point walk choice rest))

-- below a node that was done, with the thread that began there
abbrev pub below_at : Process → ℕ → spec.Walk → ℕ → Option Spot
below_at Nil point walk other = None
below_at (Output channel message next) point walk other = Some (next, point + 1, walk)
below_at (Input channel pattern next) point walk other = with_next walk.ahead.messages (λ t ts. Some (next, point + 1, with_message walk t ts))
below_at (Parallel left right) point walk other = cond (nat_lt walk.ahead.point (point_after (point + 1) left))
    (Some (left, point + 1, walk)) (Some (right, point_after (point + 1) left, record walk { thread = other }))
below_at (Replication copied) point walk other = with_next walk.ahead.sessions (λ t ts. Some (copied, point + 1, with_copy walk other t ts))
below_at (New word next) point walk other = Some (next, point + 1, walk)
below_at (Let pattern expression next otherwise) point walk other = branches_at next otherwise 0 point walk
below_at (Event performed next) point walk other = Some (next, point + 1, walk)
below_at (Phase number next) point walk other = Some (next, point + 1, walk)
below_at (Insert table arguments next) point walk other = Some (next, point + 1, walk)
below_at (Get table patterns condition next otherwise) point walk other = branches_at next otherwise (length patterns) point walk

-- the walk goes on there
pub record GoesTo (route : Route) (next : Walk) (spot : List Term → Option Spot) (point : ℕ) : Type 0 where
  pub on_way : IsOnWay route next
  pub further : point < next.point
  pub is : (all : List Term) → spot all ≡ Some (process_of next.process.now, next.point, walk_of all route next)

abbrev pub Goes : Route → (List Term → Option Spot) → ℕ → Option Walk → Type 0
Goes route spot point None = (all : List Term) → spot all ≡ None
Goes route spot point (Some next) = GoesTo route next spot point

-- a node was done, with the thread that began there; or it is stuck
pub record IsPassedBy (f : State → Option (Done × State)) (st : State) (all : List Term) (ids : MadeState) (other : ℕ) : Type 0 where
  pub node : Done
  pub next : State
  pub gives : f st ≡ Some (node, next)
  pub other_is : node.other ≡ other
  pub is : IsState all ids next

abbrev pub Passes : (State → Option (Done × State)) → State → List Term → MadeState → Passed → Type 0
Passes f st all ids went.Stuck = (node : Done) (next : State) → f st ≡ Some (node, next) → most_steps < length next.steps
Passes f st all ids (went.Done other) = IsPassedBy f st all ids other

abbrev pub PassesOn : Protocol → MadeState → Passed → Type 0
PassesOn P ids went.Stuck = Unit {0}
PassesOn P ids (went.Done other) = IsRun P ids
