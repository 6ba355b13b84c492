use Rattle.std.proofs.Common.{◌≡◌, take}
use Rattle.spec_clauses.specs.Fact.{total, fact_size}
use Rattle.term_tree.specs.Bank.{capped}
use Rattle.clause_form.specs.Seen.{fact_at}
use Rattle.clause_form.specs.Facts.{fact_of}
use Rattle.clause_form.proofs.size.size_of_facts.Given as goal

abbrev pub invariant-loop-fact : goal.invariant-loop-fact
invariant-loop-fact g l = l.symbols ≡ capped (total (λ f. fact_size (fact_at (g.B.Bank.trees l.bank) (fact_of f))) (take l.fact-index l.facts))
