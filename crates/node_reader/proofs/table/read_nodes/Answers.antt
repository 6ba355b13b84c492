use Rattle.std.proofs.Common.{◌∙◌, rules}
use Rattle.node_lines.proofs.Loops.{lines_on, lines_fault, lines_end, lines_over}
use Rattle.node_reader.proofs.table.read_nodes.Goals as goal

pub returns-then-front-ne110-clause-read : goal.returns-then-front-ne110-clause-read
returns-then-front-ne110-clause-read c = lines_end _ _ _ _ _ _ _ _ c.loop-round.invariant.read c.front.ensures.is c.if-front-ne110.true

pub returns-in_err-node_line-clause-read : goal.returns-in_err-node_line-clause-read
returns-in_err-node_line-clause-read c =
    let fault = lines_fault _ _ _ _ _ _ _ _ _ c.in_err-node_line.field-0.0 c.loop-round.invariant.read c.loop-round-test.true c.front.ensures.is c.if-front-ne110.false c.in_err-node_line.ensures.read in search (rules, fault)

pub loop-round-preserved : goal.loop-round-preserved
loop-round-preserved c = record {
  read = lines_on _ _ _ _ _ _ _ _ _ _ _ _ c.loop-round.invariant.read c.loop-round-test.true c.front.ensures.is c.if-front-ne110.false c.in_ok-node_line.ensures.read;
  same = c.in_ok-node_line.ensures.same ∙ c.loop-round.invariant.same;
}

pub returns-then-front-eq110-clause-read : goal.returns-then-front-eq110-clause-read
returns-then-front-eq110-clause-read c = lines_over _ _ _ _ _ _ _ _ _ c.loop-round.invariant.read c.loop-round-test.false c.front-2.ensures.is c.if-front-eq110.true

pub returns-clause-read : goal.returns-clause-read
returns-clause-read c = lines_end _ _ _ _ _ _ _ _ c.loop-round.invariant.read c.front-2.ensures.is c.if-front-eq110.false
