use Rattle.spec_placements.proofs.Crowding.{crowded, confined_none, confined_more, confined_same, room_more}
use Rattle.spec_placements.proofs.crowds_are_not_placed.Goals as goal

pub returns-clause-crowded : goal.returns-clause-crowded
returns-clause-crowded c = crowded

pub returns-clause-none : goal.returns-clause-none
returns-clause-none c = confined_none

pub returns-clause-more : goal.returns-clause-more
returns-clause-more c = λ bs taken hs facts area. confined_more bs taken hs area facts

pub returns-clause-same : goal.returns-clause-same
returns-clause-same c = λ bs taken hs facts area. confined_same bs taken hs area facts

pub returns-clause-room : goal.returns-clause-room
returns-clause-room c = room_more
