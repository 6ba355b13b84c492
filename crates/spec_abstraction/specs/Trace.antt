-- What the abstraction needs of a run besides its configurations: what each thread has received and taken, the copies above it, and
-- where each name was made.
use Rattle.std.specs.Prelude.{ℕ, ◌+◌, List, [], ◌∷◌, ◌++◌, length, Option, Some, None, option_and_then, unwrap_or}
use Rattle.std.specs.Option.{option_map_or}
use Rattle.spec_calculus.specs.Syntax.{Process, Output, Protocol}
use Rattle.spec_calculus.specs.Points.{numbered, replaced}
use Rattle.spec_calculus.specs.Values.{Value, Environment, value_of}
use Rattle.spec_calculus.specs.Runs.{Thread, At, Ended, Configuration, Step, Split, Copy, Make, Pass, Say, Fetch, start, acting, after_step}

-- a thread's past: the messages that it received and the values of the entries that it took, in order, and the numbers of the copies
-- that it comes from
pub record Past : Type 0 where
  pub messages : List Value
  pub sessions : List ℕ

abbrev pub nothing_past : Past
nothing_past = record { messages = []; sessions = [] }

-- how many messages and copies it has: as many as inputs, terms of entries and replications stand above the thread
abbrev pub past_count : Past → ℕ
past_count past = length past.messages + length past.sessions

-- a name that was made: its number, the point of its restriction, and the past of the thread that made it
pub record MadeAt : Type 0 where
  pub number : ℕ
  pub point : ℕ
  pub past : Past

-- the pasts of the threads, how many copies were taken, and the names that were made, the newest first
pub record Trace : Type 0 where
  pub pasts : List Past
  pub copies : ℕ
  pub made : List MadeAt

-- at the start: the main process has no past
abbrev pub start_trace : Trace
start_trace = record { pasts = nothing_past ∷ []; copies = 0; made = [] }

-- the past of the thread of that number
abbrev pub past_of : Trace → ℕ → Past
past_of t i = unwrap_or (numbered t.pasts i) nothing_past

-- the message that the thread sends at an output
abbrev pub message_at : ℕ → Environment → Process → Option Value
message_at point environment (Output channel message next) = Some (value_of environment message)
message_at point environment other = None

-- the thread has these values besides
abbrev pub gets : Trace → ℕ → List Value → Trace
gets t i vs = let past = past_of t i in
    record t { pasts = replaced t.pasts i (record past { messages = past.messages ++ vs }) }

-- the thread receives the message
abbrev pub hears : Trace → ℕ → Option Value → Trace
hears t i None = t
hears t i (Some v) = gets t i (v ∷ [])

-- the values of the entry of that number
abbrev pub entry_values : Configuration → ℕ → List Value
entry_values c e = option_map_or (λ held. held.arguments) (numbered c.entries e) []

-- a new last thread with this past
abbrev pub goes_with : Trace → Past → Trace
goes_with t past = record t { pasts = t.pasts ++ past ∷ [] }

-- the point at which a thread stands
abbrev pub point_of : Thread → Option ℕ
point_of (At point environment) = Some point
point_of Ended = None

-- the point of the thread of that number
abbrev pub standing_at : Configuration → ℕ → Option ℕ
standing_at c i = option_and_then point_of (numbered c.threads i)

-- the trace after a step that is made from this configuration
abbrev pub after_trace : Protocol → Configuration → Trace → Step → Trace
after_trace P c t (Split i) = goes_with t (past_of t i)
after_trace P c t (Copy i) = let past = past_of t i in
    record (goes_with t (record past { sessions = past.sessions ++ t.copies ∷ [] })) { copies = t.copies + 1 }
after_trace P c t (Make i) = record t { made = record { number = c.next; point = unwrap_or (standing_at c i) 0; past = past_of t i } ∷ t.made }
after_trace P c t (Pass i j) = hears t j (acting P c i message_at)
after_trace P c t (Say j k) = hears t j (numbered c.known k)
after_trace P c t (Fetch i e) = gets t i (entry_values c e)
after_trace P c t step = t

-- the traces of steps from a configuration with this trace, to the last
abbrev pub trace_from : Protocol → Configuration → Trace → List Step → Trace
trace_from P c t [] = t
trace_from P c t (step ∷ steps) = option_map_or (λ d. trace_from P d (after_trace P c t step) steps) (after_step P c step) t

-- the trace of a run
abbrev pub trace_of : Protocol → List Step → Trace
trace_of P steps = trace_from P (start P) start_trace steps
