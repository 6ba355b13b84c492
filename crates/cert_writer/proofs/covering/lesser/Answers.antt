use Rattle.std.proofs.Common.{subst}
use Rattle.std.specs.Prelude.{Option}
use Rattle.cert_writer.specs.declared.covering.Found.{Found}
use Rattle.cert_writer.specs.Classed.{IsFirstAmong}
use Rattle.cert_writer.proofs.Classed.{only_left, only_right, lesser_left, lesser_right}
use Rattle.cert_writer.proofs.covering.lesser.Goals as goal

pub returns-in-None : goal.returns-in-None
returns-in-None c = λ all live special ms ns left right. only_right all live special ms ns c.args.right (subst (λ (o : Option Found). IsFirstAmong all live special ms o) c.in-None.is left) right

pub returns-in-None-right : goal.returns-in-None-right
returns-in-None-right c = λ all live special ms ns left right.
    only_left all live special ms ns c.in-Some.first (subst (λ (o : Option Found). IsFirstAmong all live special ms o) c.in-Some.is left) (subst (λ (o : Option Found). IsFirstAmong all live special ns o) c.in-None-right.is right)

pub returns-then-first-second : goal.returns-then-first-second
returns-then-first-second c = λ all live special ms ns left right.
    lesser_left all live special ms ns c.in-Some.first c.in-Some-right.second c.if-first-second.true (subst (λ (o : Option Found). IsFirstAmong all live special ms o) c.in-Some.is left) (subst (λ (o : Option Found). IsFirstAmong all live special ns o) c.in-Some-right.is right)

pub returns-else-first-second : goal.returns-else-first-second
returns-else-first-second c = λ all live special ms ns left right.
    lesser_right all live special ms ns c.in-Some.first c.in-Some-right.second c.if-first-second.false (subst (λ (o : Option Found). IsFirstAmong all live special ms o) c.in-Some.is left) (subst (λ (o : Option Found). IsFirstAmong all live special ns o) c.in-Some-right.is right)
