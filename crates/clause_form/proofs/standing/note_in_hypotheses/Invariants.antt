use Rattle.std.proofs.Common.{◌≡◌, take, flat_map}
use Rattle.clause_form.specs.Facts.{fact_of}
use Rattle.clause_form.specs.Seen.{fact_at}
use Rattle.clause_form.specs.Standing.{noted, firm_numbers}
use Rattle.clause_form.proofs.standing.note_in_hypotheses.Given as goal

abbrev pub invariant-loop-fact : goal.invariant-loop-fact
invariant-loop-fact g l = l.table ≡ noted l.fn.table (flat_map (λ f. firm_numbers (fact_at (g.B.Bank.trees l.bank) (fact_of f))) (take l.fact-index l.facts))
