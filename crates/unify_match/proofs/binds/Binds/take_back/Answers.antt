use Rattle.std.proofs.Common.{◌∙◌, List, reverse, ap, subst, arith}
use Rattle.std.proofs.lemmas.Grind.{common_steps}
use Rattle.unify_match.specs.declared.bound.Bound.{Bound}
use Rattle.unify_match.specs.Table.{IsTableOf}
use Rattle.unify_match.proofs.Tables.{reverse-last, IsTableOf-take_back}
use Rattle.unify_match.proofs.binds.Binds.take_back.Goals as goal

pub invariant_of-self : goal.invariant_of-self
invariant_of-self c =
    let items = ap reverse c.in-Some.ensures.items ∙ reverse-last c.pop.new.self.items c.in-Some.bound in
    IsTableOf-take_back (reverse c.pop.new.self.items) c.self.inside.table c.remove.new.self c.in-Some.bound
    (subst (λ (l : List Bound). IsTableOf l c.self.inside.table) items c.self.invariant) c.remove.ensures.updates.0

pub returns-in-Some-clause-pairs : goal.returns-in-Some-clause-pairs
returns-in-Some-clause-pairs c = grind (arith, common_steps)
