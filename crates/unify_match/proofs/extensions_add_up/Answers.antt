use Rattle.unify_match.proofs.Trails.{Extends-refl, Extends-trans, undone}
use Rattle.unify_match.proofs.extensions_add_up.Goals as goal

pub returns-clause-none : goal.returns-clause-none
returns-clause-none c = Extends-refl

pub returns-clause-twice : goal.returns-clause-twice
returns-clause-twice c = Extends-trans

pub returns-clause-undone : goal.returns-clause-undone
returns-clause-undone c = undone
