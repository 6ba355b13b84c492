use Rattle.std.proofs.Common.{◌≡◌, map, take}
use Rattle.clause_form.specs.Facts.{fact_of}
use Rattle.clause_form.specs.PlainFacts.{plain_fact_of}
use Rattle.clause_form.specs.Seen.{fact_at}
use Rattle.clause_form.proofs.copies.read_facts.Given as goal

abbrev pub invariant-loop-fact : goal.invariant-loop-fact
invariant-loop-fact g l = map plain_fact_of l.items.items ≡ map (λ f. fact_at (g.B.Bank.trees l.bank) (fact_of f)) (take l.fact-index l.facts)
