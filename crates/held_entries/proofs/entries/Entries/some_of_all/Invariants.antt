use Rattle.std.proofs.Common.{◌≡◌, map, drop}
use Rattle.std.specs.List.{list_any}
use Rattle.held_entries.specs.Entries.{held_of}
use Rattle.held_entries.specs.Index.{answer_of}
use Rattle.held_entries.proofs.entries.Entries.some_of_all.Given as goal

abbrev pub invariant-loop-held : goal.invariant-loop-held
invariant-loop-held l =
    list_any (answer_of l.wanted l.table l.question) (map held_of (drop l.held-index l.held-items)) ≡ list_any (answer_of l.wanted l.table l.question) (map held_of l.held-items)
