use Rattle.std.proofs.Common.{◌∙◌, arith}
use Rattle.std.proofs.lemmas.Grind.{common_steps}
use Rattle.fact_reader.proofs.Rounds.{viewed_on, viewed_end, row_out, told_on}
use Rattle.fact_reader.proofs.rows.items.Goals as goal

pub returns-then-not-more-clause-read : goal.returns-then-not-more-clause-read
returns-then-not-more-clause-read g c =
    viewed_end (g.R.TermReader.term_of c.args.reader.now) _ _ _ _ _ _ _ _ _ _ _ c.in_ok-next.next _ _ c.in_ok-push.ensures.items c.if-not-more.true c.loop-round.invariant.read c.loop-round-test.true c.in_ok-next.ensures.read

pub returns-then-not-more-clause-known : goal.returns-then-not-more-clause-known
returns-then-not-more-clause-known g c = told_on (g.R.TermReader.IsTerm c.args.reader.now) _ _ c.in_ok-next.next c.in_ok-push.ensures.items c.loop-round.invariant.known c.in_ok-next.ensures.known

pub loop-round-preserved : goal.loop-round-preserved
loop-round-preserved g c = record {
  read = viewed_on (g.R.TermReader.term_of c.args.reader.now) _ _ _ _ _ _ _ _ _ _ _ c.in_ok-next.next _ _ c.in_ok-push.ensures.items c.if-not-more.false c.loop-round.invariant.read c.loop-round-test.true c.in_ok-next.ensures.read;
  same = c.in_ok-next.ensures.same ∙ c.loop-round.invariant.same;
  known = told_on (g.R.TermReader.IsTerm c.args.reader.now) _ _ c.in_ok-next.next c.in_ok-push.ensures.items c.loop-round.invariant.known c.in_ok-next.ensures.known;
}

pub returns-clause-read : goal.returns-clause-read
returns-clause-read g c = row_out _ _ _ _ _ _ _ c.loop-round.invariant.read c.loop-round-test.false

pub loop-round-init : goal.loop-round-init
loop-round-init g c = grind (arith, common_steps)
