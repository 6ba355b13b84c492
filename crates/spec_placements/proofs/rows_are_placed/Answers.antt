use Rattle.spec_placements.proofs.Holding.{inner_row, holds_from, from_holds, first_from, from_first, no_row}
use Rattle.spec_placements.proofs.rows_are_placed.Goals as goal

pub returns-clause-inner : goal.returns-clause-inner
returns-clause-inner c = inner_row

pub returns-clause-rows : goal.returns-clause-rows
returns-clause-rows c = λ bs general special row m. (holds_from bs general special m row, from_holds bs general special m row)

pub returns-clause-first : goal.returns-clause-first
returns-clause-first c = λ bs general special row m. (first_from bs general special m row, from_first bs general special m row)

pub returns-clause-unmatched : goal.returns-clause-unmatched
returns-clause-unmatched c = λ general special row none held. none held.by tt held.conclusion

pub returns-clause-unplaced : goal.returns-clause-unplaced
returns-clause-unplaced c = λ bs general special row m. no_row bs general special m row
