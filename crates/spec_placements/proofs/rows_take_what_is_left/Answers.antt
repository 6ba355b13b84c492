use Rattle.spec_placements.proofs.Standing.{takes_within, within_takes, takes_insert, takes_removed, takes_loose}
use Rattle.spec_placements.proofs.rows_take_what_is_left.Goals as goal

pub returns-clause-included : goal.returns-clause-included
returns-clause-included c = λ hs ys more flags row e t. takes_within hs flags ys row more e t

pub returns-clause-taken : goal.returns-clause-taken
returns-clause-taken c = λ hs ys more flags e w. within_takes hs flags ys more e w

pub returns-clause-inserted : goal.returns-clause-inserted
returns-clause-inserted c = λ hs ys more flags row at p y. takes_insert hs flags ys row more at p y

pub returns-clause-removed : goal.returns-clause-removed
returns-clause-removed c = λ hs ys more flags row at y. takes_removed hs flags ys row more at y

pub returns-clause-others : goal.returns-clause-others
returns-clause-others c = λ hs ys more flags row. takes_loose hs flags ys row more
