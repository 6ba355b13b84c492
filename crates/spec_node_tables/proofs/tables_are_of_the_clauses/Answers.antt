use Rattle.spec_node_tables.proofs.Walks.{table_distinct, table_has}
use Rattle.spec_node_tables.proofs.Numbers.{at_place, table_rises}
use Rattle.spec_node_tables.specs.Table.{table}
use Rattle.spec_node_tables.proofs.tables_are_of_the_clauses.Goals as goal

pub returns-clause-distinct : goal.returns-clause-distinct
returns-clause-distinct c = table_distinct

pub returns-clause-subterms : goal.returns-clause-subterms
returns-clause-subterms c = table_has

pub returns-clause-arguments_first : goal.returns-clause-arguments_first
returns-clause-arguments_first c = table_rises

pub returns-clause-numbers : goal.returns-clause-numbers
returns-clause-numbers c = λ cs t h. at_place (table cs) t h
