use Rattle.term_tree.proofs.BankLaws.{Grows_refl, Grows_trans, Grows-length}
use Rattle.term_tree.proofs.growth_adds_up.Goals as goal

pub returns-clause-none : goal.returns-clause-none
returns-clause-none c = Grows_refl

pub returns-clause-twice : goal.returns-clause-twice
returns-clause-twice c = Grows_trans

pub returns-clause-longer : goal.returns-clause-longer
returns-clause-longer c = Grows-length
