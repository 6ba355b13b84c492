use Rattle.std.proofs.Common.{◌≡◌, drop}
use Rattle.std.specs.List.{list_any}
use Rattle.held_entries.specs.Index.{answer_at}
use Rattle.held_entries.proofs.entries.Entries.some_of.Given as goal

abbrev pub invariant-loop-index : goal.invariant-loop-index
invariant-loop-index l =
    list_any (answer_at l.wanted l.table l.question l.self) (drop l.index-index l.indices) ≡ list_any (answer_at l.wanted l.table l.question l.self) l.indices
