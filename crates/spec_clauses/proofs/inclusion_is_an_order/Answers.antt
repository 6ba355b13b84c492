use Rattle.spec_clauses.proofs.Inclusion.{within_self, within-trans, within-append, within-pick}
use Rattle.spec_clauses.proofs.inclusion_is_an_order.Goals as goal

pub returns-clause-reflexive : goal.returns-clause-reflexive
returns-clause-reflexive g c = within_self

pub returns-clause-transitive : goal.returns-clause-transitive
returns-clause-transitive g c = within-trans

pub returns-clause-both : goal.returns-clause-both
returns-clause-both g c = within-append

pub returns-clause-picked : goal.returns-clause-picked
returns-clause-picked g c = λ x ys rest zs p w. within-pick zs p w
