-- What the objects that keep everything in memory hold, and what a call of one leaves.
use Rattle.std.specs.Prelude.{◌≡◌, ℕ, ◌+◌, ◌-◌, ◌^◌, ◌<◌, ◌⊎◌, min, length, List, [], ◌∷◌, Contains, Option, Some, None, unwrap_or, if◌then◌else◌}
use Rattle.std.specs.Str.{bytes_eq}

-- a name, and the bytes under it
pub record Entry : Type 0 where
  pub name : List ℕ
  pub bytes : List ℕ

-- the calls of an object: which are to fail, how many were made, and how many faults were counted
pub record Calls : Type 0 where
  pub failing : List ℕ
  pub made : ℕ
  pub faults : ℕ

-- what files in memory hold, the newest entry first, and their loads
pub record FilesState : Type 0 where
  pub entries : List Entry
  pub calls : Calls

-- what a sink in memory was given, how much it takes at once, for how many bytes it has memory, and its writes
pub record SinkState : Type 0 where
  pub bytes : List ℕ
  pub most : ℕ
  pub room : ℕ
  pub calls : Calls

-- no call was made, none is to fail
abbrev pub no_calls : Calls
no_calls = record { failing = []; made = 0; faults = 0 }

-- one more; the greatest number of 64 bits stays
abbrev pub next_count : ℕ → ℕ
next_count n = min (n + 1) (2 ^ 64 - 1)

-- the next call is one of those that are to fail
abbrev pub IsNextToFail : Calls → Type 0
IsNextToFail calls = Contains calls.failing (next_count calls.made)

-- one more call, which went well
abbrev pub after_call : Calls → Calls
after_call calls = record calls { made = next_count calls.made }

-- one more call, which failed
abbrev pub after_fault : Calls → Calls
after_fault calls = record calls { made = next_count calls.made; faults = next_count calls.faults }

-- the bytes that were last added under a name
abbrev pub added : List Entry → List ℕ → Option (List ℕ)
added [] name = None
added (entry ∷ older) name = if bytes_eq entry.name name then Some entry.bytes else added older name

-- the bytes that a name holds, and none where nothing was added under it
abbrev pub bytes_of : List Entry → List ℕ → List ℕ
bytes_of entries name = unwrap_or (added entries name) []

-- a load of this name fails: it is due to, or nothing was added under the name
abbrev pub FailsNext : FilesState → List ℕ → Type 0
FailsNext files name = IsNextToFail files.calls ⊎ (added files.entries name ≡ None)

-- what a write takes of this piece
abbrev pub taken_of : SinkState → List ℕ → ℕ
taken_of sink piece = min sink.most (length piece)

-- there is no room for what a write takes of this piece, so it needs more memory
abbrev pub NeedsMemory : SinkState → List ℕ → Type 0
NeedsMemory sink piece = sink.room < length sink.bytes + taken_of sink piece
