use Rattle.spec_placements.proofs.Standing.{stand_placed, placed_stand, unmatched, occupied, in_range, some_stand, all_placed, pick_removed}
use Rattle.spec_placements.proofs.all_are_placed_where_one_stands.Goals as goal

pub returns-clause-matched : goal.returns-clause-matched
returns-clause-matched c = λ old new taken hs rest g h ending p free found m. (stand_placed hs taken ending old new g h rest p found m, placed_stand hs taken ending old new g h rest p free found m)

pub returns-clause-unmatched : goal.returns-clause-unmatched
returns-clause-unmatched c = λ bs taken hs rest g h ending p. unmatched hs taken ending bs g h rest p

pub returns-clause-occupied : goal.returns-clause-occupied
returns-clause-occupied c = λ bs taken hs rest g ending p. occupied hs taken ending bs g rest p

pub returns-clause-range : goal.returns-clause-range
returns-clause-range c = λ bs taken hs rest g ending p. in_range hs taken ending bs g rest p

pub returns-clause-some : goal.returns-clause-some
returns-clause-some c = λ bs taken hs unplaced rest g ending e picks can. some_stand hs taken ending bs unplaced rest g e picks can

pub returns-clause-none : goal.returns-clause-none
returns-clause-none c = λ bs taken hs unplaced rest g ending e picks never can.
    let (p, stands) = some_stand hs taken ending bs unplaced rest g e picks can in
    never p (in_range hs taken ending bs g rest p stands) stands

pub returns-clause-placed : goal.returns-clause-placed
returns-clause-placed c = λ bs taken hs unplaced rest g ending p. all_placed hs taken ending bs unplaced rest g p

pub returns-clause-removed : goal.returns-clause-removed
returns-clause-removed c = pick_removed
