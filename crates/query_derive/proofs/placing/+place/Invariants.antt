use Rattle.std.proofs.Common.{◌≡◌, length, map}
use Rattle.clause_form.specs.Facts.{fact_of}
use Rattle.clause_form.specs.Seen.{fact_at}
use Rattle.query_derive.specs.Wanted.{event_fact}
use Rattle.query_derive.proofs.Searching.{NoneTo}
use Rattle.query_derive.proofs.placing.+place.Given as goal

abbrev pub decreases-place : goal.decreases-place
decreases-place g l = length l.events.now

abbrev pub invariant-each : goal.invariant-each
invariant-each g l = record {
  same : l.binds.pairs ≡ l.fn.binds.pairs;
  none : NoneTo (g.B.Bank.trees l.bank) l.fn.binds.pairs (map (fact_at (g.B.Bank.trees l.bank)) (map fact_of l.hyps)) (map event_fact l.fn.events) l.k;
}
