use Rattle.std.proofs.Common.{map, drop}
use Rattle.clause_form.specs.Facts.{fact_of}
use Rattle.clause_form.specs.Seen.{fact_at}
use Rattle.query_derive.specs.Wanted.{event_fact}
use Rattle.query_derive.specs.Sought.{AreAt}
use Rattle.query_derive.proofs.Narrowing.{Remains}
use Rattle.query_derive.proofs.placing.stand_at.Given as goal

abbrev pub invariant-each : goal.invariant-each
invariant-each g l = Remains (g.B.Bank.trees l.bank) l.fn.binds.pairs l.binds.pairs (λ s. AreAt s (map event_fact l.events) (map (fact_at (g.B.Bank.trees l.bank)) (map fact_of l.hyps)) l.positions)
    (λ s. AreAt s (map event_fact (drop l.k l.events)) (map (fact_at (g.B.Bank.trees l.bank)) (map fact_of l.hyps)) (drop l.k l.positions))
