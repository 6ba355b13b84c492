-- Each verdict so far is that the query is proved.
use Rattle.std.proofs.Common.{◌≡◌, drop}
use Rattle.std.specs.List.{list_all}
use Rattle.call_outcomes.specs.VerdictText.{is_proved}
use Rattle.call_outcomes.proofs.verdicts.are_proved.Given as goal

abbrev pub invariant-loop-verdict : goal.invariant-loop-verdict
invariant-loop-verdict l = list_all is_proved (drop l.verdict-index l.verdict-items) ≡ list_all is_proved l.verdict-items
