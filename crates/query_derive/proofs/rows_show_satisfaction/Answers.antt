use Rattle.query_derive.proofs.Deciding.{satisfied_by_rows, one_first_row}
use Rattle.query_derive.proofs.rows_show_satisfaction.Goals as goal

pub returns-clause-rows : goal.returns-clause-rows
returns-clause-rows c = satisfied_by_rows

pub returns-clause-first : goal.returns-clause-first
returns-clause-first c = one_first_row
