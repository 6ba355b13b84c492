use Rattle.spec_clauses.proofs.Facts.{fact_under-fact_under, clause_under-clause_under, fact_under-Leaf, clause_under-Leaf, fact_under-agree, clause_under-agree}
use Rattle.spec_clauses.proofs.substitutions_act_on_clauses.Goals as goal

pub returns-clause-facts : goal.returns-clause-facts
returns-clause-facts c = fact_under-fact_under

pub returns-clause-clauses : goal.returns-clause-clauses
returns-clause-clauses c = clause_under-clause_under

pub returns-clause-same_fact : goal.returns-clause-same_fact
returns-clause-same_fact c = fact_under-Leaf

pub returns-clause-same_clause : goal.returns-clause-same_clause
returns-clause-same_clause c = clause_under-Leaf

pub returns-clause-agree_fact : goal.returns-clause-agree_fact
returns-clause-agree_fact c = fact_under-agree

pub returns-clause-agree_clause : goal.returns-clause-agree_clause
returns-clause-agree_clause c = clause_under-agree
