use Rattle.clause_instances.specs.Instances.{pending_at}
use Rattle.clause_instances.proofs.Origins.{given_alone}
use Rattle.clause_instances.proofs.expansion.given.Goals as goal

pub returns-in-None-clause-given : goal.returns-in-None-clause-given
returns-in-None-clause-given c = λ log at.
    let p = pending_at c.args.bank.now c.args.pending.now in
    let none = c.in_ok-instance_of.ensures.instance log at in
    (rw c.in-None.is at none, given_alone log p c.args.expansion.now.next c.args.number at)

pub returns-in-Some-clause-given : goal.returns-in-Some-clause-given
returns-in-Some-clause-given c = λ log at. let some = c.in_ok-instance_of.ensures.instance log at in rw c.in-Some.is at some

pub returns-in-Some-clause-known : goal.returns-in-Some-clause-known
returns-in-Some-clause-known c = let known = c.in_ok-instance_of.ensures.known in rw c.in-Some.is at known
