use Rattle.spec_placements.proofs.Removing.{removes_nothing, removes_one, removes_both, removed_within, lacking, no_room_more, no_room_later}
use Rattle.spec_placements.proofs.removal_is_exact.Goals as goal

pub returns-clause-nothing : goal.returns-clause-nothing
returns-clause-nothing c = removes_nothing

pub returns-clause-one : goal.returns-clause-one
returns-clause-one c = removes_one

pub returns-clause-both : goal.returns-clause-both
returns-clause-both c = λ hs ys zs before between now. removes_both hs before between now ys zs

pub returns-clause-room : goal.returns-clause-room
returns-clause-room c = λ hs ys before now. removed_within hs before now ys

pub returns-clause-lacking : goal.returns-clause-lacking
returns-clause-lacking c = lacking

pub returns-clause-more : goal.returns-clause-more
returns-clause-more c = λ hs ys more flags. no_room_more hs flags ys more

pub returns-clause-later : goal.returns-clause-later
returns-clause-later c = λ hs ys zs before now. no_room_later hs before now ys zs
