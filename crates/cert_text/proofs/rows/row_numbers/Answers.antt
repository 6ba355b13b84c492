use Rattle.std.proofs.Common.{◌∙◌, arith}
use Rattle.std.proofs.lemmas.Grind.{common_steps}
use Rattle.fact_reader.proofs.Things.{things_on, things_end, things_out}
use Rattle.cert_text.proofs.rows.row_numbers.Goals as goal

pub returns-then-not-more-clause-read : goal.returns-then-not-more-clause-read
returns-then-not-more-clause-read c = things_end _ _ _ _ _ _ _ _ _ _ c.in_ok-next.next _ c.in_ok-push.ensures.items c.if-not-more.true c.loop-round.invariant.read c.loop-round-test.true c.in_ok-next.ensures.read

pub loop-round-preserved : goal.loop-round-preserved
loop-round-preserved c = record {
  read = things_on _ _ _ _ _ _ _ _ _ _ c.in_ok-next.next _ c.in_ok-push.ensures.items c.if-not-more.false c.loop-round.invariant.read c.loop-round-test.true c.in_ok-next.ensures.read;
  same = c.in_ok-next.ensures.same ∙ c.loop-round.invariant.same;
}

pub returns-clause-read : goal.returns-clause-read
returns-clause-read c = things_out _ _ _ _ _ _ _ c.loop-round.invariant.read c.loop-round-test.false

pub loop-round-init : goal.loop-round-init
loop-round-init c = grind (arith, common_steps)
