use Rattle.clause_instances.specs.Instances.{pending_at}
use Rattle.clause_instances.proofs.Origins.{resolved_alone}
use Rattle.clause_instances.proofs.expansion.resolved.Goals as goal

pub returns-in-None-clause-resolved : goal.returns-in-None-clause-resolved
returns-in-None-clause-resolved c = λ log tells at.
    let p = pending_at c.args.bank.now c.args.pending.now in
    let none = c.in_ok-parents_of.ensures.parents log tells at in
    (resolved_alone c.args.derivation.now.sources.now log p c.args.expansion.now.next c.args.descends at, rw c.in-None.is at none)

pub returns-in-Some-clause-resolved : goal.returns-in-Some-clause-resolved
returns-in-Some-clause-resolved c = λ log tells at. let some = c.in_ok-parents_of.ensures.parents log tells at in rw c.in-Some.is at some
