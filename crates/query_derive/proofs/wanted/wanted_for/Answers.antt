use Rattle.spec_clauses.specs.Fact.{Bad}
use Rattle.query_derive.proofs.wanted.wanted_for.Goals as goal

pub returns : goal.returns
returns c = λ i. record { conclusion = Bad (c.in_ok-bad.ensures i); events = c.in_ok-events.ensures i }
