use Rattle.spec_clauses.proofs.Facts.{map_fact-map_fact, map_clause-map_clause, map_fact-id, map_clause-id, map_clause-agree}
use Rattle.spec_clauses.proofs.maps_act_on_clauses.Goals as goal

pub returns-clause-facts : goal.returns-clause-facts
returns-clause-facts g c = map_fact-map_fact

pub returns-clause-clauses : goal.returns-clause-clauses
returns-clause-clauses g c = map_clause-map_clause

pub returns-clause-same_fact : goal.returns-clause-same_fact
returns-clause-same_fact g c = map_fact-id

pub returns-clause-same_clause : goal.returns-clause-same_clause
returns-clause-same_clause g c = map_clause-id

pub returns-clause-agree : goal.returns-clause-agree
returns-clause-agree g c = map_clause-agree
