use Rattle.spec_calculus.proofs.Items.{each-contains}
use Rattle.spec_well_formed.specs.Queries.{HasQueryLeaves}
use Rattle.spec_read_protocols.proofs.queries_of_read_protocols.Goals as goal

pub returns-clause-proper : goal.returns-clause-proper
returns-clause-proper c = λ bytes P q h asked. record {
  rules = c.proper_rules.ensures bytes P h;
  patterns = c.linear_patterns.ensures bytes P h;
  query = each-contains (HasQueryLeaves P) P.queries q (c.query_leaves.ensures bytes P h) asked;
}

pub returns-clause-hold : goal.returns-clause-hold
returns-clause-hold c = λ bytes P q all clauses h asked shown.
    c.queries_hold.ensures P q all clauses (record {
      rules = c.proper_rules.ensures bytes P h;
      patterns = c.linear_patterns.ensures bytes P h;
      query = each-contains (HasQueryLeaves P) P.queries q (c.query_leaves.ensures bytes P h) asked;
    }) shown
