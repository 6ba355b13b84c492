-- Threads that go to another point with what they have bound, and threads as a phase finds them.
use Rattle.std.specs.Prelude.{ℕ, ◌+◌, nat_eq, nat_lt, List, cond, slice_get, slice_set, map, Option, None, Some}
use Rattle.std.specs.Option.{option_map_or}
use Rattle.spec_calculus.specs.Syntax.{Process, Phase}
use Rattle.spec_calculus.specs.Points.{numbered, replaced}
use Rattle.spec_calculus.specs.Values.{Environment}
use Rattle.spec_calculus.specs.Runs.{Thread, At, Ended, Configuration}
use Rattle.pi_tree.specs.Accessors.{capped}

abbrev pub moved_to : ℕ → Thread → Thread
moved_to point (At from environment) = At point environment
moved_to point Ended = Ended

abbrev pub moved : List Thread → ℕ → ℕ → List Thread
moved threads i point = option_map_or (λ thread. replaced threads i (moved_to point thread)) (numbered threads i) threads

-- the thread of that number is at another point
abbrev pub advanced : Configuration → ℕ → ℕ → Configuration
advanced c i point = record c { threads = moved c.threads i point }

-- the phase that a process waits for, 0 where it waits for none
abbrev pub awaited : Process → ℕ
awaited (Phase number next) = number
awaited other = 0

-- a thread when the phase n begins, where its point waits for that one: it goes on where it waits for phase n, stays where it waits for
-- a later one, and else it ends
abbrev pub at_awaited : ℕ → ℕ → Environment → Option ℕ → Thread
at_awaited n point environment (Some number) =
    cond (nat_eq number n) (At (capped (point + 1)) environment) (cond (nat_lt n number) (At point environment) Ended)
at_awaited n point environment None = Ended

-- the same, where the points wait for the phases that are listed
abbrev pub entered : List ℕ → ℕ → Thread → Thread
entered phases n (At point environment) = at_awaited n point environment (numbered phases point)
entered phases n Ended = Ended

abbrev pub entered_at : List ℕ → ℕ → List Thread → ℕ → List Thread
entered_at phases n threads index = option_map_or (λ thread. slice_set threads index (entered phases n thread)) (slice_get threads index) threads

-- the phase n begins
abbrev pub entered_in : List ℕ → ℕ → Configuration → Configuration
entered_in phases n c = record c { phase = n; threads = map (entered phases n) c.threads }

-- the thread at the point, where it doesn't end
abbrev pub placed : Option ℕ → Thread → Thread
placed None thread = Ended
placed (Some point) thread = moved_to point thread
