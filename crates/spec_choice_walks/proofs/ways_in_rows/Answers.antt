use Rattle.spec_choice_walks.proofs.Ways.{each-append, each-drop, each-take}
use Rattle.spec_choice_walks.proofs.ways_in_rows.Goals as goal

pub returns-clause-both : goal.returns-clause-both
returns-clause-both c = each-append

pub returns-clause-behind : goal.returns-clause-behind
returns-clause-behind c = each-drop

pub returns-clause-before : goal.returns-clause-before
returns-clause-before c = each-take
