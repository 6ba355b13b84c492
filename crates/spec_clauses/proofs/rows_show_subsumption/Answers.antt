use Rattle.spec_clauses.proofs.Subsumption.{row_subsumes, subsumes_by_row, row_length, one_first_row}
use Rattle.spec_clauses.proofs.rows_show_subsumption.Goals as goal

pub returns-clause-rows : goal.returns-clause-rows
returns-clause-rows c = λ general special flats. (subsumes_by_row general special flats, λ h. row_subsumes general special h.0 flats h.1)

pub returns-clause-positions : goal.returns-clause-positions
returns-clause-positions c = row_length

pub returns-clause-first : goal.returns-clause-first
returns-clause-first c = one_first_row
