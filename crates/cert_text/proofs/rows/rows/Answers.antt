use Rattle.std.proofs.Common.{◌∙◌, rules, arith}
use Rattle.std.proofs.lemmas.Grind.{common_steps}
use Rattle.cert_text.proofs.Lines.{viewed_on, lines_fault, lines_end, lines_over}
use Rattle.cert_text.proofs.rows.rows.Goals as goal

pub returns-then-front-letter-clause-read : goal.returns-then-front-letter-clause-read
returns-then-front-letter-clause-read c = lines_end _ _ _ _ _ _ _ _ c.loop-round.invariant.read c.front.ensures.is c.if-front-letter.true

pub returns-in_err-next-clause-read : goal.returns-in_err-next-clause-read
returns-in_err-next-clause-read c =
    let fault = lines_fault _ _ _ _ _ _ _ _ _ c.in_err-next.field-0.0 c.loop-round.invariant.read c.loop-round-test.true c.front.ensures.is c.if-front-letter.false c.in_err-next.ensures.read in search (rules, fault)

pub loop-round-preserved : goal.loop-round-preserved
loop-round-preserved c = record {
  read = viewed_on (λ row. row.items) _ _ _ _ _ _ _ _ _ _ _ _ c.in_ok-next.next.items c.in_ok-push.ensures.items c.loop-round.invariant.read c.loop-round-test.true c.front.ensures.is c.if-front-letter.false c.in_ok-next.ensures.read;
  same = c.in_ok-next.ensures.same ∙ c.loop-round.invariant.same;
}

pub returns-then-front-letter-2-clause-read : goal.returns-then-front-letter-2-clause-read
returns-then-front-letter-2-clause-read c = lines_over _ _ _ _ _ _ _ _ _ c.loop-round.invariant.read c.loop-round-test.false c.front-2.ensures.is c.if-front-letter-2.true

pub returns-clause-read : goal.returns-clause-read
returns-clause-read c = lines_end _ _ _ _ _ _ _ _ c.loop-round.invariant.read c.front-2.ensures.is c.if-front-letter-2.false

pub loop-round-init : goal.loop-round-init
loop-round-init c = grind (arith, common_steps)
