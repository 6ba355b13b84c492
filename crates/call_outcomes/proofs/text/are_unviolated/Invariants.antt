-- No query so far is violated.
use Rattle.std.proofs.Common.{◌≡◌, drop, is_none}
use Rattle.std.specs.List.{list_all}
use Rattle.call_outcomes.proofs.text.are_unviolated.Given as goal

abbrev pub invariant-loop-first : goal.invariant-loop-first
invariant-loop-first l = list_all is_none (drop l.first-index l.first-items) ≡ list_all is_none l.first-items
