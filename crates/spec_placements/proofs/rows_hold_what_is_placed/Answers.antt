use Rattle.spec_placements.proofs.Standing.{placed_row, row_placed, row_stands, row_long, holds_nothing, holds_one, one_holds, holds_inserted, front_holds, back_holds}
use Rattle.spec_placements.proofs.rows_hold_what_is_placed.Goals as goal

pub returns-clause-some : goal.returns-clause-some
returns-clause-some c = λ bs taken hs unplaced ending. placed_row hs taken ending bs unplaced

pub returns-clause-placed : goal.returns-clause-placed
returns-clause-placed c = λ bs taken hs unplaced ending row. row_placed hs taken ending bs unplaced row

pub returns-clause-stands : goal.returns-clause-stands
returns-clause-stands c = λ bs taken hs rest g ending row p. row_stands hs taken ending bs g rest p row

pub returns-clause-positions : goal.returns-clause-positions
returns-clause-positions c = λ bs taken hs unplaced ending row. row_long hs taken ending bs unplaced row

pub returns-clause-nothing : goal.returns-clause-nothing
returns-clause-nothing c = λ bs taken hs ending. holds_nothing hs taken ending bs

pub returns-clause-one : goal.returns-clause-one
returns-clause-one c = λ old new taken hs rest g h ending row p free found m. (one_holds hs taken ending old new g h p found m rest row, holds_one hs taken ending old new g h p found m rest row free)

pub returns-clause-inserted : goal.returns-clause-inserted
returns-clause-inserted c = λ old new taken hs unplaced g h ending row at p e which free found m. holds_inserted hs taken ending old new g h p found m unplaced row at e which free

pub returns-clause-front : goal.returns-clause-front
returns-clause-front c = λ bs taken hs unplaced g ending row at e. front_holds hs taken ending bs e unplaced row at g

pub returns-clause-back : goal.returns-clause-back
returns-clause-back c = λ bs taken hs unplaced g ending row at p e. back_holds hs taken ending bs e unplaced row at p g
