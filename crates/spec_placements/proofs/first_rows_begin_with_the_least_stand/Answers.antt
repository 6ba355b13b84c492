use Rattle.spec_placements.proofs.Standing.{first_nothing, first_one}
use Rattle.spec_placements.proofs.first_rows_begin_with_the_least_stand.Goals as goal

pub returns-clause-nothing : goal.returns-clause-nothing
returns-clause-nothing c = λ bs taken hs ending. first_nothing hs taken ending bs

pub returns-clause-one : goal.returns-clause-one
returns-clause-one c = λ old new taken hs rest g h ending row p e free found m least. first_one hs taken ending old new g h p found m rest row e free least
