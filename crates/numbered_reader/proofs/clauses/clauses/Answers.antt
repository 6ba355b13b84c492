use Rattle.std.proofs.Common.{◌∙◌, rules}
use Rattle.node_reader.specs.Tables.{table_of}
use Rattle.numbered_reader.proofs.Loops.{lined_on, lined_fault, lined_end, lined_over}
use Rattle.numbered_reader.proofs.Known.{clauses_on, clauses_known_on}
use Rattle.numbered_reader.proofs.clauses.clauses.Goals as goal

pub returns-then-front-ne99-clause-read : goal.returns-then-front-ne99-clause-read
returns-then-front-ne99-clause-read c = lined_end _ _ _ _ _ _ _ _ _ c.loop-round.invariant.read c.front.ensures.is c.if-front-ne99.true

pub returns-in_err-next-clause-read : goal.returns-in_err-next-clause-read
returns-in_err-next-clause-read c =
    let fault = lined_fault _ _ _ _ _ _ _ _ _ _ c.in_err-next.field-0.0 c.loop-round.invariant.read c.loop-round-test.true c.front.ensures.is c.if-front-ne99.false c.in_err-next.ensures.read in search (rules, fault)

pub loop-round-preserved : goal.loop-round-preserved
loop-round-preserved c = record {
  read = lined_on _ _ _ _ _ _ _ _ _ _ _ _ _ _ _ (clauses_on (table_of c.args.table.now).terms _ _ c.in_ok-next.next c.in_ok-push.ensures.items) c.loop-round.invariant.read c.loop-round-test.true c.front.ensures.is c.if-front-ne99.false c.in_ok-next.ensures.read;
  same = c.in_ok-next.ensures.same ∙ c.loop-round.invariant.same;
  known = clauses_known_on _ _ _ c.in_ok-next.next c.in_ok-push.ensures.items c.loop-round.invariant.known c.in_ok-next.ensures.known;
}

pub returns-then-front-eq99-clause-read : goal.returns-then-front-eq99-clause-read
returns-then-front-eq99-clause-read c = lined_over _ _ _ _ _ _ _ _ _ _ c.loop-round.invariant.read c.loop-round-test.false c.front-2.ensures.is c.if-front-eq99.true

pub returns-clause-read : goal.returns-clause-read
returns-clause-read c = lined_end _ _ _ _ _ _ _ _ _ c.loop-round.invariant.read c.front-2.ensures.is c.if-front-eq99.false
