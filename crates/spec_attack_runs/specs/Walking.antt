-- The walk of a thread down the process to the point of a way: each node on it is done once in each copy, with one step.
use Rattle.std.specs.Prelude.{ℕ, zero, suc, ◌+◌, ◌-◌, Bool, true, false, not, ◌&&◌, nat_eq, nat_lt, List, [], ◌∷◌, ◌++◌, length, take, drop, filter, cond, Option, None, Some, option_and_then, option_map}
use Rattle.std.specs.List.{find}
use Rattle.std.specs.Option.{option_map_or}
use Rattle.spec_trees.specs.Tree.{Leaf, trees}
use Rattle.spec_calculus.specs.Syntax.{Process, Nil, Output, Input, Parallel, Replication, New, Let, Event, Phase, Insert, Get, Protocol}
use Rattle.spec_calculus.specs.Points.{numbered, point_after}
use Rattle.spec_calculus.specs.Values.{MadeName, Value, Environment, same_value, same_values, value_of}
use Rattle.spec_calculus.specs.Choices.{same_label}
use Rattle.spec_calculus.specs.Tables.{Held}
use Rattle.spec_calculus.specs.Runs.{Thread, At, Ended, Configuration, Step, Split, Copy, Make, Pass, Hear, Say, Take, Fail, Mark, Next, Put, Fetch, Miss, acting, knows}
use Rattle.spec_calculus.specs.Refusals.{at_output, at_input}
use Rattle.spec_terms.specs.Term.{Term}
use Rattle.spec_clauses.specs.Fact.{same_terms}
use Rattle.spec_translation.specs.Conversion.{name_term}
use Rattle.spec_attack_runs.specs.Source.{Choice, Taken, Else, Way}
use Rattle.spec_attack_runs.specs.Compiling.{Done, State, take_step, closed_value, closed_values, first_number, with_name, placed}

-- the thread that walks, what it received and the copies that it comes from, outermost first, and what is ahead of its way
pub record Walk : Type 0 where
  pub thread : ℕ
  pub received : List Term
  pub copied : List Term
  pub ahead : Way

abbrev pub start_walk : Way → Walk
start_walk way = record { thread = 1; received = []; copied = []; ahead = way }

-- whether the thread of that number stands at the point
abbrev pub is_at : ℕ → Thread → Bool
is_at point (At at environment) = nat_eq at point
is_at point Ended = false

abbrev pub stands_at : Configuration → ℕ → ℕ → Bool
stands_at c i point = option_map_or (is_at point) (numbered c.threads i) false

-- the step of the thread that walks, which stands at the point
abbrev pub acts_at : Protocol → ℕ → Walk → Step → State → Option State
acts_at P point walk step st = cond (stands_at st.configuration walk.thread point) (take_step P step st) None

-- whether two choices are the same
abbrev pub same_choice : Choice → Choice → Bool
same_choice (Taken a) (Taken b) = same_label a b
same_choice Else Else = true
same_choice _ _ = false

-- a node at which nothing is received or chosen
abbrev pub plain_node : ℕ → Walk → Done
plain_node point walk = record { point = point; sessions = walk.copied; messages = []; choice = Taken []; thread = walk.thread; other = walk.thread }

-- whether two nodes are of one point and one copy, and whether the same was done there
abbrev pub same_place : Done → Done → Bool
same_place a b = nat_eq a.point b.point && same_terms a.sessions b.sessions

abbrev pub same_deed : Done → Done → Bool
same_deed a b = same_terms a.messages b.messages && same_choice a.choice b.choice

-- A node is done once: where it was done, nothing happens, unless it was done otherwise, which is a conflict.
abbrev pub noted : Done → State → Done × State
noted node st = (node, record st { done = st.done ++ node ∷ [] })

abbrev pub unless_done : State → Done → Option State → Option Done → Option (Done × State)
unless_done st node acted None = option_map (noted node) acted
unless_done st node acted (Some done) = cond (same_deed node done) (Some (done, st)) None

unfoldable pub once : State → Done → Option State → Option (Done × State)
once st node acted = unless_done st node acted (find (same_place node) st.done)

-- where the node is the last of the way the walk ends, and else it goes on below it
abbrev pub goes_below : Bool → Done → State → (Done → State → Option State) → Option State
goes_below true done st go = Some st
goes_below false done st go = go done st

abbrev pub below : ℕ → Walk → (Done → State → Option State) → Option (Done × State) → Option State
below point walk go None = None
below point walk go (Some (done, st)) = goes_below (nat_eq point walk.ahead.point) done st go

-- what the next of a list gives, and nothing where there is none
abbrev pub next_of : {A : Type 0} → List A → (A → List A → Option State) → Option State
next_of [] go = None
next_of (x ∷ xs) go = go x xs

-- An output on a channel that is known is heard; any other waits.
abbrev pub sends : Protocol → ℕ → Walk → State → Option State
sends P point walk st = cond (stands_at st.configuration walk.thread point)
    (cond (option_map_or (knows st.configuration) (acting P st.configuration walk.thread at_output) false)
    (take_step P (Hear walk.thread) st) (Some (record st { waiting = st.waiting ++ walk.thread ∷ [] }))) None

-- the message that a thread at an output sends
abbrev pub at_message : ℕ → Environment → Process → Option Value
at_message point environment (Output channel message next) = Some (value_of environment message)
at_message point environment other = None

-- whether the thread waits at an output of the message on the channel
abbrev pub offers : Protocol → Configuration → Value → Value → ℕ → Bool
offers P c channel message i = option_map_or (same_value channel) (acting P c i at_output) false
    && option_map_or (same_value message) (acting P c i at_message) false

-- the message comes from the first thread that waits with it
abbrev pub passed : Protocol → ℕ → Walk → Value → Value → State → Option State
passed P point walk channel message st = option_and_then
    (λ i. acts_at P point walk (Pass i walk.thread) (record st { waiting = filter (λ j. not (nat_eq i j)) st.waiting }))
    (find (offers P st.configuration channel message) st.waiting)

-- An input on a channel that is known is said the message, and one on another channel gets it from an output that waits.
abbrev pub hears_on : Protocol → ℕ → Walk → Term → State → Value → Bool → Option State
hears_on P point walk message st channel true =
    option_and_then (λ k. acts_at P point walk (Say walk.thread k.0) k.1) (placed P message st)
hears_on P point walk message st channel false =
    option_and_then (λ v. passed P point walk channel v st) (closed_value st.names message)

abbrev pub receives : Protocol → ℕ → Walk → Term → State → Option State
receives P point walk message st = option_and_then (λ channel. hears_on P point walk message st channel (knows st.configuration channel))
    (acting P st.configuration walk.thread at_input)

-- A restriction makes a name, which is that of its point's term.
abbrev pub makes : Protocol → ℕ → Walk → State → Option State
makes P point walk st = option_map (with_name (name_term point walk.received walk.copied) (Leaf (MadeName point st.configuration.next)))
    (acts_at P point walk (Make walk.thread) st)

-- a `let` goes on as was chosen
abbrev pub chooses : Protocol → ℕ → Walk → Choice → State → Option State
chooses P point walk (Taken label) st = acts_at P point walk (Take walk.thread label) st
chooses P point walk Else st = acts_at P point walk (Fail walk.thread) st

-- a `get` takes the first entry of these values, or none
abbrev pub is_entry : ℕ → List Value → Held → Bool
is_entry table values held = nat_eq held.table table && same_values held.arguments values

abbrev pub fetches : Protocol → ℕ → Walk → ℕ → Choice → List Term → State → Option State
fetches P point walk table (Taken label) terms st = option_and_then (λ values.
    option_and_then (λ e. acts_at P point walk (Fetch walk.thread e) st) (first_number (is_entry table values) st.configuration.entries))
    (closed_values st.names (trees terms))
fetches P point walk table Else terms st = acts_at P point walk (Miss walk.thread) st

-- so many phases begin
abbrev pub begin : Protocol → ℕ → State → Option State
begin P zero st = Some st
begin P (suc count) st = option_and_then (begin P count) (take_step P Next st)

-- what is ahead of a walk behind a message, a copy, or a choice
abbrev pub with_message : Walk → Term → List Term → Walk
with_message walk message rest = record walk { received = walk.received ++ message ∷ []; ahead = record walk.ahead { messages = rest } }

abbrev pub with_copy : Walk → ℕ → Term → List Term → Walk
with_copy walk thread session rest =
    record walk { thread = thread; copied = walk.copied ++ session ∷ []; ahead = record walk.ahead { sessions = rest } }

abbrev pub with_choice : Walk → List Choice → Walk
with_choice walk rest = record walk { ahead = record walk.ahead { choices = rest } }

abbrev pub with_entry : Walk → ℕ → List Choice → Walk
with_entry walk count rest = record walk {
  received = walk.received ++ take count walk.ahead.messages;
  ahead = record walk.ahead { choices = rest; messages = drop count walk.ahead.messages };
}

-- one of two walks
abbrev pub turns : {A : Type 0} → Bool → (Unit {0} → A) → (Unit {0} → A) → A
turns true left right = left tt
turns false left right = right tt

-- below a choice: the branch that was taken, or the else branch
abbrev pub branch : Choice → (Unit {0} → Option State) → (Unit {0} → Option State) → Option State
branch (Taken label) next otherwise = next tt
branch Else next otherwise = otherwise tt

-- what a `get` takes: of an entry the values, and else nothing
abbrev pub taken_messages : Choice → List Term → List Term
taken_messages (Taken label) terms = terms
taken_messages Else terms = []

-- the walk through the process that begins at the point
unfoldable pub walked : Protocol → Process → ℕ → Walk → State → Option State
walked P Nil point walk st = None
walked P (Output channel message next) point walk st =
    below point walk (λ done s. walked P next (point + 1) walk s) (once st (plain_node point walk) (sends P point walk st))
walked P (Input channel pattern next) point walk st = next_of walk.ahead.messages (λ t ts.
    below point walk (λ done s. walked P next (point + 1) (with_message walk t ts) s)
    (once st (record (plain_node point walk) { messages = t ∷ [] }) (receives P point walk t st)))
walked P (Parallel left right) point walk st =
    below point walk (λ done s. turns (nat_lt walk.ahead.point (point_after (point + 1) left))
    (λ u. walked P left (point + 1) walk s) (λ u. walked P right (point_after (point + 1) left) (record walk { thread = done.other }) s))
    (once st (record (plain_node point walk) { other = length st.configuration.threads + 1 }) (acts_at P point walk (Split walk.thread) st))
walked P (Replication copied) point walk st = next_of walk.ahead.sessions (λ t ts.
    below point walk (λ done s. walked P copied (point + 1) (with_copy walk done.other t ts) s)
    (once st (record (plain_node point walk) { sessions = walk.copied ++ t ∷ []; other = length st.configuration.threads + 1 })
    (acts_at P point walk (Copy walk.thread) st)))
walked P (New word next) point walk st =
    below point walk (λ done s. walked P next (point + 1) walk s) (once st (plain_node point walk) (makes P point walk st))
walked P (Let pattern expression next otherwise) point walk st = next_of walk.ahead.choices (λ choice rest.
    below point walk (λ done s. branch choice (λ u. walked P next (point + 1) (with_choice walk rest) s)
    (λ u. walked P otherwise (point_after (point + 1) next) (with_choice walk rest) s))
    (once st (record (plain_node point walk) { choice = choice }) (chooses P point walk choice st)))
walked P (Event performed next) point walk st =
    below point walk (λ done s. walked P next (point + 1) walk s) (once st (plain_node point walk) (acts_at P point walk (Mark walk.thread) st))
walked P (Phase number next) point walk st =
    below point walk (λ done s. walked P next (point + 1) walk s)
    (once st (plain_node point walk) (begin P (number - st.configuration.phase) st))
walked P (Insert table arguments next) point walk st =
    below point walk (λ done s. walked P next (point + 1) walk s) (once st (plain_node point walk) (acts_at P point walk (Put walk.thread) st))
walked P (Get table patterns condition next otherwise) point walk st = next_of walk.ahead.choices (λ choice rest.
    below point walk (λ done s. branch choice (λ u. walked P next (point + 1) (with_entry walk (length patterns) rest) s)
    (λ u. walked P otherwise (point_after (point + 1) next) (with_choice walk rest) s))
    (once st (record (plain_node point walk) { choice = choice; messages = taken_messages choice (take (length patterns) walk.ahead.messages) })
    (fetches P point walk table choice (take (length patterns) walk.ahead.messages) st)))
