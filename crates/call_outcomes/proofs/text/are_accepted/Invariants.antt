-- Each finding so far is that its certificate is accepted.
use Rattle.std.proofs.Common.{◌≡◌, drop}
use Rattle.std.specs.List.{list_all}
use Rattle.call_outcomes.specs.Text.{is_accepted}
use Rattle.call_outcomes.proofs.text.are_accepted.Given as goal

abbrev pub invariant-loop-finding : goal.invariant-loop-finding
invariant-loop-finding l = list_all is_accepted (drop l.finding-index l.finding-items) ≡ list_all is_accepted l.finding-items
