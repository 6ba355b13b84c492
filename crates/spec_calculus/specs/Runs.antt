-- Runs: threads of a protocol beside an attacker (Blanchet 2016, section 2.2, the reduction of configurations).
use Rattle.std.specs.Prelude.{ℕ, zero, suc, ◌+◌, Bool, true, false, ◌&&◌, nat_le, nat_lt, nat_eq, List, [], ◌∷◌, ◌++◌, length, cond, Option, None, Some, option_and_then, option_map, is_some, filter_map, map}
use Rattle.std.specs.List.{list_any, enumerate_from}
use Rattle.std.specs.Option.{option_map_or}
use Rattle.spec_trees.specs.Tree.{Leaf, Node, trees, items_of}
use Rattle.spec_calculus.specs.Bounds.{most_arguments}
use Rattle.spec_calculus.specs.Syntax.{Made, Symbol, Constructor, Tuple, Process, Output, Input, Parallel, Replication, New, Let, Event, Phase, Insert, Get, Declared, Protocol}
use Rattle.spec_calculus.specs.Points.{numbered, replaced, nodes, point_after, greatest_phase}
use Rattle.spec_calculus.specs.Values.{FreeName, MadeName, AttackerName, Value, Environment, same_value, value_of, values_of}
use Rattle.spec_calculus.specs.Matching.{matched, rule_value, rules_of}
use Rattle.spec_calculus.specs.Tables.{Held, matched_entry}
use Rattle.spec_calculus.specs.Choices.{value_at, values_at}

-- a thread: it stands at a point in an environment, or it has ended
pub data Thread : Type 0 where
  At : (point : ℕ) → (environment : Environment) → Thread
  Ended : Thread

-- an event that was performed
pub record Performed : Type 0 where
  pub event : ℕ
  pub arguments : List Value

-- a configuration: the threads, the values that the attacker knows, the events in order, the number of the next name, the phase,
-- and the entries of tables in order
pub record Configuration : Type 0 where
  pub threads : List Thread
  pub known : List Value
  pub events : List Performed
  pub next : ℕ
  pub phase : ℕ
  pub entries : List Held

-- a free name, if it is public
abbrev pub public_name : ℕ × Declared → Option Value
public_name (number, declared) = cond declared.public (Some (Leaf (FreeName number))) None

-- the start: the main process with nothing bound in phase 0, and the public free names known, in order of declaration
abbrev pub start : Protocol → Configuration
start P = record {
  threads = At 1 [] ∷ [];
  known = filter_map public_name (enumerate_from 1 P.frees);
  events = [];
  next = 0;
  phase = 0;
  entries = [];
}

-- a step; threads, known values, constructors, destructors, rules, parts and entries are numbered from 1
pub data Step : Type 0 where
  -- the attacker applies the constructor, 0 for the tuple, to known values
  Build : (constructor : ℕ) → (arguments : List ℕ) → Step
  -- the attacker applies the rule of the destructor to known values
  Reduce : (destructor rule : ℕ) → (arguments : List ℕ) → Step
  -- the attacker takes the part of a known data value
  Part : (value part : ℕ) → Step
  -- the attacker makes a name
  Fresh : Step
  -- the thread at a parallel composition becomes two
  Split : (thread : ℕ) → Step
  -- the thread at a replication gives one more copy
  Copy : (thread : ℕ) → Step
  -- the thread's restriction makes a name
  Make : (thread : ℕ) → Step
  -- the first thread sends to the second
  Pass : (sender receiver : ℕ) → Step
  -- the attacker hears the thread's message
  Hear : (thread : ℕ) → Step
  -- the attacker sends the known value to the thread
  Say : (thread value : ℕ) → Step
  -- the thread at a `let` takes the value with that label
  Take : (thread : ℕ) → (label : List ℕ) → Step
  -- the thread at a `let` goes to its else branch
  Fail : (thread : ℕ) → Step
  -- the thread performs its event
  Mark : (thread : ℕ) → Step
  -- the next phase begins
  Next : Step
  -- the thread writes its entry
  Put : (thread : ℕ) → Step
  -- the thread at a `get` takes the entry
  Fetch : (thread entry : ℕ) → Step
  -- the thread at a `get` goes to its else branch
  Miss : (thread : ℕ) → Step

-- what an action gives at the point, the environment and the process of a thread that has not ended
abbrev pub acts : {A : Type 0} → Protocol → Thread → (ℕ → Environment → Process → Option A) → Option A
acts P (At point environment) action = option_and_then (action point environment) (numbered (nodes P.main) point)
acts P Ended action = None

abbrev pub acting : {A : Type 0} → Protocol → Configuration → ℕ → (ℕ → Environment → Process → Option A) → Option A
acting P c i action = option_and_then (λ thread. acts P thread action) (numbered c.threads i)

-- the value becomes known
abbrev pub learns : Configuration → Value → Configuration
learns c v = record c { known = c.known ++ v ∷ [] }

-- the thread of that number goes on as this one
abbrev pub goes_on : Configuration → ℕ → Thread → Configuration
goes_on c i thread = record c { threads = replaced c.threads i thread }

-- a new last thread
abbrev pub begins : Configuration → Thread → Configuration
begins c thread = record c { threads = c.threads ++ thread ∷ [] }

-- the next name is taken
abbrev pub names : Configuration → Configuration
names c = record c { next = c.next + 1 }

abbrev pub performs : Configuration → Performed → Configuration
performs c performed = record c { events = c.events ++ performed ∷ [] }

-- one more entry
abbrev pub writes : Configuration → Held → Configuration
writes c held = record c { entries = c.entries ++ held ∷ [] }

abbrev pub knows : Configuration → Value → Bool
knows c v = list_any (same_value v) c.known

-- the known values of those numbers
abbrev pub known_values : Configuration → List ℕ → Option (List Value)
known_values c [] = Some []
known_values c (k ∷ ks) = option_and_then (λ v. option_map (λ vs. v ∷ vs) (known_values c ks)) (numbered c.known k)

-- whether the attacker may apply the constructor, or for 0 the tuple, to that many values
abbrev pub can_build : Protocol → ℕ → ℕ → Bool
can_build P zero count = nat_le 2 count && nat_le count most_arguments
can_build P (suc f) count = option_map_or (λ declared. declared.public && nat_eq declared.arity count) (numbered P.constructors (suc f)) false

abbrev pub built : ℕ → List Value → Value
built zero vs = Node Tuple (trees vs)
built (suc f) vs = Node (Constructor (suc f)) (trees vs)

-- whether a symbol is that of data, whose parts anyone can take
abbrev pub is_data : Protocol → Symbol → Bool
is_data P Tuple = true
is_data P (Constructor f) = option_map_or (λ declared. declared.is_data) (numbered P.constructors f) false

-- the part of that number of a data value
abbrev pub part_of : Protocol → ℕ → Value → Option Value
part_of P i (Leaf x) = None
part_of P i (Node f vs) = cond (is_data P f) (numbered (items_of vs) i) None

-- a parallel composition: the thread goes on as the left process, and a new one is the right
abbrev pub after_split : Configuration → ℕ → ℕ → Environment → Process → Option Configuration
after_split c i point environment (Parallel left right) =
    Some (begins (goes_on c i (At (point + 1) environment)) (At (point_after (point + 1) left) environment))
after_split c i point environment other = None

-- a replication: a new thread is one more copy, and the thread stays
abbrev pub after_copy : Configuration → ℕ → Environment → Process → Option Configuration
after_copy c point environment (Replication copied) = Some (begins c (At (point + 1) environment))
after_copy c point environment other = None

-- a restriction binds a name that no one else has
abbrev pub after_make : Configuration → ℕ → ℕ → Environment → Process → Option Configuration
after_make c i point environment (New word next) = Some (names (goes_on c i (At (point + 1)
    (environment ++ record { name = Made point; value = Leaf (MadeName point c.next) } ∷ []))))
after_make c i point environment other = None

-- an input's thread once it has received: it goes on where the value matches, and else it ends
abbrev pub received : ℕ → Environment → Option Environment → Thread
received point environment None = Ended
received point environment (Some bindings) = At (point + 1) (environment ++ bindings)

-- the thread j, at an input on the channel, receives the message that the thread i sent
abbrev pub after_receipt : Configuration → ℕ → ℕ → Thread → Value → Value → ℕ → Environment → Process → Option Configuration
after_receipt c i j sent channel message point environment (Input on pattern next) = cond (same_value channel (value_of environment on))
    (Some (goes_on (goes_on c i sent) j (received point environment (matched environment pattern message)))) None
after_receipt c i j sent channel message point environment other = None

-- an output of the thread i meets an input of the thread j on an equal channel
abbrev pub after_pass : Protocol → Configuration → ℕ → ℕ → ℕ → Environment → Process → Option Configuration
after_pass P c i j point environment (Output channel message next) =
    acting P c j (after_receipt c i j (At (point + 1) environment) (value_of environment channel) (value_of environment message))
after_pass P c i j point environment other = None

-- an output on a channel that is known makes its message known
abbrev pub after_hear : Configuration → ℕ → ℕ → Environment → Process → Option Configuration
after_hear c i point environment (Output channel message next) = cond (knows c (value_of environment channel))
    (Some (learns (goes_on c i (At (point + 1) environment)) (value_of environment message))) None
after_hear c i point environment other = None

-- an input on a channel that is known receives a known value
abbrev pub after_say : Configuration → ℕ → Value → ℕ → Environment → Process → Option Configuration
after_say c j v point environment (Input channel pattern next) = cond (knows c (value_of environment channel))
    (Some (goes_on c j (received point environment (matched environment pattern v)))) None
after_say c j v point environment other = None

-- a `let` goes on with the value of that label, where it matches
abbrev pub after_take : Protocol → Configuration → ℕ → List ℕ → ℕ → Environment → Process → Option Configuration
after_take P c i label point environment (Let pattern expression next otherwise) =
    option_map (λ bindings. goes_on c i (At (point + 1) (environment ++ bindings)))
    (option_and_then (matched environment pattern) (value_at P environment expression label))
after_take P c i label point environment other = None

-- a `let` goes to its else branch where none of its values matches
abbrev pub after_fail : Protocol → Configuration → ℕ → ℕ → Environment → Process → Option Configuration
after_fail P c i point environment (Let pattern expression next otherwise) =
    cond (list_any (λ v. is_some (matched environment pattern v)) (values_at P environment expression)) None
    (Some (goes_on c i (At (point_after (point + 1) next) environment)))
after_fail P c i point environment other = None

-- an event is performed
abbrev pub after_mark : Configuration → ℕ → ℕ → Environment → Process → Option Configuration
after_mark c i point environment (Event performed next) =
    Some (performs (goes_on c i (At (point + 1) environment)) (record { event = performed.event; arguments = values_of environment performed.arguments }))
after_mark c i point environment other = None

-- the terms are written into the table
abbrev pub after_put : Configuration → ℕ → ℕ → Environment → Process → Option Configuration
after_put c i point environment (Insert table arguments next) =
    Some (writes (goes_on c i (At (point + 1) environment)) (record { table = table; arguments = values_of environment arguments }))
after_put c i point environment other = None

-- a `get` goes on with the entry of that number, where it may take it
abbrev pub after_fetch : Configuration → ℕ → ℕ → ℕ → Environment → Process → Option Configuration
after_fetch c i e point environment (Get table patterns condition next otherwise) =
    option_map (λ bindings. goes_on c i (At (point + 1) (environment ++ bindings)))
    (option_and_then (matched_entry environment table patterns condition) (numbered c.entries e))
after_fetch c i e point environment other = None

-- a `get` goes to its else branch where it may take no entry
abbrev pub after_miss : Configuration → ℕ → ℕ → Environment → Process → Option Configuration
after_miss c i point environment (Get table patterns condition next otherwise) =
    cond (list_any (λ held. is_some (matched_entry environment table patterns condition held)) c.entries) None
    (Some (goes_on c i (At (point_after (point + 1) next) environment)))
after_miss c i point environment other = None

-- a thread at this process when the phase of that number begins: it goes on where it waits for it, stays where it waits for a later
-- one, and else it ends
abbrev pub at_phase : ℕ → ℕ → Environment → Option Process → Thread
at_phase n point environment (Some (Phase number next)) =
    cond (nat_eq number n) (At (point + 1) environment) (cond (nat_lt n number) (At point environment) Ended)
at_phase n point environment other = Ended

abbrev pub enters : Protocol → ℕ → Thread → Thread
enters P n (At point environment) = at_phase n point environment (numbered (nodes P.main) point)
enters P n Ended = Ended

-- the next phase, with all that is known, performed and written
abbrev pub raised : Protocol → Configuration → Configuration
raised P c = record c { phase = c.phase + 1; threads = map (enters P (c.phase + 1)) c.threads }

-- the configuration after a step, where the step is possible
abbrev pub after_step : Protocol → Configuration → Step → Option Configuration
after_step P c (Build f ks) = cond (can_build P f (length ks)) (option_map (λ vs. learns c (built f vs)) (known_values c ks)) None
after_step P c (Reduce d r ks) =
    option_and_then (λ rule. option_map (learns c) (option_and_then (rule_value rule) (known_values c ks))) (numbered (rules_of P d) r)
after_step P c (Part k i) = option_map (learns c) (option_and_then (part_of P i) (numbered c.known k))
after_step P c Fresh = Some (names (learns c (Leaf (AttackerName c.next))))
after_step P c (Split i) = acting P c i (after_split c i)
after_step P c (Copy i) = acting P c i (after_copy c)
after_step P c (Make i) = acting P c i (after_make c i)
after_step P c (Pass i j) = acting P c i (after_pass P c i j)
after_step P c (Hear i) = acting P c i (after_hear c i)
after_step P c (Say j k) = option_and_then (λ v. acting P c j (after_say c j v)) (numbered c.known k)
after_step P c (Take i label) = acting P c i (after_take P c i label)
after_step P c (Fail i) = acting P c i (after_fail P c i)
after_step P c (Mark i) = acting P c i (after_mark c i)
after_step P c Next = cond (nat_lt c.phase (greatest_phase P.main)) (Some (raised P c)) None
after_step P c (Put i) = acting P c i (after_put c i)
after_step P c (Fetch i e) = acting P c i (after_fetch c i e)
after_step P c (Miss i) = acting P c i (after_miss c i)

-- the configuration after steps, where each is possible where it stands
abbrev pub after_steps : Protocol → Configuration → List Step → Option Configuration
after_steps P c [] = Some c
after_steps P c (step ∷ steps) = option_and_then (λ d. after_steps P d steps) (after_step P c step)

-- the end of a run: the steps from the start
abbrev pub run : Protocol → List Step → Option Configuration
run P steps = after_steps P (start P) steps
