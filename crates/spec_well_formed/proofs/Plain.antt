-- A process without phases and tables: its phases come in their order, and it takes no entries.
use Rattle.std.specs.Prelude.{ℕ}
use Rattle.spec_calculus.specs.Syntax.{Process, Nil, Output, Input, Parallel, Replication, New, Let, Event, Phase, Insert, Get}
use Rattle.spec_calculus.specs.Plain.{IsPlain}
use Rattle.spec_well_formed.specs.Processes.{ArePhasesOrdered, AreSmallEntries}

pub plain_ordered : (process : Process) → IsPlain process → (now : ℕ) → ArePhasesOrdered now process
plain_ordered Nil plain now = tt
plain_ordered (Output channel message next) plain now = plain_ordered next plain now
plain_ordered (Input channel pattern next) plain now = plain_ordered next plain now
plain_ordered (Parallel left right) plain now = (plain_ordered left plain.0 now, plain_ordered right plain.1 now)
plain_ordered (Replication copied) plain now = plain_ordered copied plain now
plain_ordered (New word next) plain now = plain_ordered next plain now
plain_ordered (Let pattern expression next otherwise) plain now = (plain_ordered next plain.0 now, plain_ordered otherwise plain.1 now)
plain_ordered (Event performed next) plain now = plain_ordered next plain now
plain_ordered (Phase number next) plain now = absurd plain
plain_ordered (Insert table arguments next) plain now = absurd plain
plain_ordered (Get table patterns condition next otherwise) plain now = absurd plain

pub plain_entries : (process : Process) → IsPlain process → AreSmallEntries process
plain_entries Nil plain = tt
plain_entries (Output channel message next) plain = plain_entries next plain
plain_entries (Input channel pattern next) plain = plain_entries next plain
plain_entries (Parallel left right) plain = (plain_entries left plain.0, plain_entries right plain.1)
plain_entries (Replication copied) plain = plain_entries copied plain
plain_entries (New word next) plain = plain_entries next plain
plain_entries (Let pattern expression next otherwise) plain = (plain_entries next plain.0, plain_entries otherwise plain.1)
plain_entries (Event performed next) plain = plain_entries next plain
plain_entries (Phase number next) plain = absurd plain
plain_entries (Insert table arguments next) plain = absurd plain
plain_entries (Get table patterns condition next otherwise) plain = absurd plain
