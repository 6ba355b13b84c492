use Rattle.clause_terms.proofs.Laws.{query_term-rule}
use Rattle.clause_terms.proofs.queries_are_made_as_rules.Goals as goal

pub returns : goal.returns
returns c = query_term-rule
