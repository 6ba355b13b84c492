use Rattle.std.proofs.Common.{◌≡◌, take}
use Rattle.clause_form.proofs.facts.Facts.copy.Given as goal

abbrev pub invariant-loop-fact : goal.invariant-loop-fact
invariant-loop-fact l = l.items.items ≡ take l.fact-index l.fact-items
