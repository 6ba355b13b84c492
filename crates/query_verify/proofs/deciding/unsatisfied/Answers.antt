use Rattle.std.proofs.Common.{refl, subst}
use Rattle.query_verify.specs.Asked.{protocol_at}
use Rattle.attack_run.specs.Told.{IsTold}
use Rattle.query_verify.proofs.deciding.unsatisfied.Goals as goal

pub returns-in-Some : goal.returns-in-Some
returns-in-Some c = λ log tells q there.
    subst (λ attack. IsTold (protocol_at c.args.question.now) c.args.question.now.query c.args.log c.args.number attack) c.in-Some.is c.in_ok-attack.ensures q log there tells

pub returns-in-None : goal.returns-in-None
returns-in-None c = λ log tells q there.
    (tells, refl, subst (λ attack. IsTold (protocol_at c.args.question.now) c.args.question.now.query c.args.log c.args.number attack) c.in-None.is c.in_ok-attack.ensures q log there tells)
