use Rattle.std.proofs.Common.{◌≡◌, take, flat_map}
use Rattle.spec_clauses.specs.Fact.{total, fact_size}
use Rattle.spec_clauses.specs.Flat.{flat}
use Rattle.term_tree.specs.Bank.{capped}
use Rattle.clause_form.specs.Facts.{fact_of}
use Rattle.clause_form.specs.Seen.{fact_at}
use Rattle.clause_resolve.proofs.parts.flat_size_of_facts.Given as goal

abbrev pub invariant-each : goal.invariant-each
invariant-each g l = l.symbols ≡ capped (total fact_size (flat_map (λ f. flat (fact_at (g.B.Bank.trees l.bank) (fact_of f))) (take l.fact-index l.facts)))
