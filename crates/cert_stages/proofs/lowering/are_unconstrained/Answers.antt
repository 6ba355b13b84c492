use Rattle.std.proofs.Common.{List, subst, rules}
use Rattle.std.proofs.lemmas.List.{take_all}
use Rattle.clause_form.specs.Seen.{IdClause}
use Rattle.cert_stages.specs.Lowering.{AreUnconstrained}
use Rattle.cert_stages.proofs.Lowered.{unconstrained_on}
use Rattle.cert_stages.proofs.lowering.are_unconstrained.Goals as goal

pub each-preserved : goal.each-preserved
each-preserved c = unconstrained_on c.args.clauses.now c.each.clause-index c.clause-item.result c.each.invariant c.each-test.true c.clause-item.is (c.is_unconstrained.ensures.0 (search rules))

pub returns : goal.returns
returns c = λ e. subst (λ (cs : List IdClause). AreUnconstrained cs) (take_all c.each.clause-index c.args.clauses.now c.each-test.false) c.each.invariant
