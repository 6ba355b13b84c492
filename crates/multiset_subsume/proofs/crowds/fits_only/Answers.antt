use Rattle.std.proofs.Common.{arith, map}
use Rattle.clause_form.specs.Facts.{fact_of}
use Rattle.multiset_subsume.proofs.Keeping.{placing_as}
use Rattle.fact_placing.proofs.Putting.{length_at}
use Rattle.multiset_subsume.proofs.Confining.{confined_by}
use Rattle.multiset_subsume.proofs.crowds.fits_only.Goals as goal

pub fits_outside-requires-clause-placing : goal.fits_outside-requires-clause-placing
fits_outside-requires-clause-placing g c = placing_as (g.B.Bank.trees c.args.board.now.bank.now) (map fact_of c.args.board.now.hyps.now) c.args.placing.now.binds.pairs c.each.placing.binds.pairs c.args.placing.now.taken.items c.each.placing.taken.items c.each.invariant.same c.requires.placing

pub returns-clause-confined : goal.returns-clause-confined
returns-clause-confined g c = λ e.
    let all = g.B.Bank.trees c.args.board.now.bank.now in
    confined_by all (map fact_of c.args.board.now.hyps.now) c.args.placing.now.binds.pairs c.args.placing.now.taken.items c.args.area.now (fact_of c.args.fact.now) c.each.p (omega (arith, length_at all c.args.board.now.hyps.now, c.each-test.false)) c.each.invariant.never
