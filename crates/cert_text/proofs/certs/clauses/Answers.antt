use Rattle.std.proofs.Common.{◌∙◌, rules, arith}
use Rattle.std.proofs.lemmas.Grind.{common_steps}
use Rattle.cert_text.proofs.Lines.{lines_on, lines_fault, lines_end, lines_over}
use Rattle.cert_text.proofs.certs.clauses.Goals as goal

pub returns-then-front-ne99-clause-read : goal.returns-then-front-ne99-clause-read
returns-then-front-ne99-clause-read c = lines_end _ _ _ _ _ _ _ _ c.loop-round.invariant.read c.front.ensures.is c.if-front-ne99.true

pub returns-in_err-next-clause-read : goal.returns-in_err-next-clause-read
returns-in_err-next-clause-read c =
    let fault = lines_fault _ _ _ _ _ _ _ _ _ c.in_err-next.field-0.0 c.loop-round.invariant.read c.loop-round-test.true c.front.ensures.is c.if-front-ne99.false c.in_err-next.ensures.read in search (rules, fault)

pub loop-round-preserved : goal.loop-round-preserved
loop-round-preserved c = record {
  read = lines_on _ _ _ _ _ _ _ _ _ _ _ _ c.in_ok-next.next c.in_ok-push.ensures.ok c.loop-round.invariant.read c.loop-round-test.true c.front.ensures.is c.if-front-ne99.false c.in_ok-next.ensures.read;
  same = c.in_ok-next.ensures.same ∙ c.loop-round.invariant.same;
}

pub returns-then-front-eq99-clause-read : goal.returns-then-front-eq99-clause-read
returns-then-front-eq99-clause-read c = lines_over _ _ _ _ _ _ _ _ _ c.loop-round.invariant.read c.loop-round-test.false c.front-2.ensures.is c.if-front-eq99.true

pub returns-clause-read : goal.returns-clause-read
returns-clause-read c = lines_end _ _ _ _ _ _ _ _ c.loop-round.invariant.read c.front-2.ensures.is c.if-front-eq99.false

pub returns-in_err-push-clause-same : goal.returns-in_err-push-clause-same
returns-in_err-push-clause-same c = grind (arith, common_steps)
