use Rattle.spec_placements.proofs.Removing.{parts_joined, loose_placed, loose_unplaced, unkept_unplaced}
use Rattle.spec_placements.proofs.loose_parts_decide.Goals as goal

pub returns-clause-joined : goal.returns-clause-joined
returns-clause-joined c = parts_joined

pub returns-clause-placed : goal.returns-clause-placed
returns-clause-placed c = loose_placed

pub returns-clause-unplaced : goal.returns-clause-unplaced
returns-clause-unplaced c = loose_unplaced

pub returns-clause-unkept : goal.returns-clause-unkept
returns-clause-unkept c = unkept_unplaced
