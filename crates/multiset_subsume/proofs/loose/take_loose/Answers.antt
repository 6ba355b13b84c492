use Rattle.std.proofs.Common.{map, arith}
use Rattle.std.proofs.lemmas.Grind.{common_steps}
use Rattle.unify_match.specs.Seen.{seen}
use Rattle.clause_form.specs.Facts.{fact_of}
use Rattle.fact_placing.specs.Boards.{facts_at}
use Rattle.multiset_subsume.proofs.Removal.{parts_of, no_room_at}
use Rattle.multiset_subsume.proofs.loose.take_loose.Goals as goal

pub returns-then-not-take_bound : goal.returns-then-not-take_bound
returns-then-not-take_bound g c =
    let all = g.B.Bank.trees c.args.board.now.bank.now in
    no_room_at (parts_of (seen all c.args.binds.now.pairs)) (facts_at all (map fact_of c.args.board.now.hyps.now)) c.args.board.now.ending.loose.now c.each.loose-index record { phase = 0; variable = 0 } c.args.taken.now c.each.taken c.each-test.true c.each.invariant.removes c.if-not-take_bound.ensures

pub each-preserved : goal.each-preserved
each-preserved g c = grind (arith, common_steps)

pub returns : goal.returns
returns g c = grind (arith, common_steps)
