use Rattle.std.proofs.Common.{arith, map}
use Rattle.clause_form.specs.Facts.{fact_of}
use Rattle.fact_placing.proofs.Putting.{length_at, cannot_past}
use Rattle.multiset_subsume.proofs.holding.put_at.Goals as goal

pub returns-then-place-board-clause-outcome : goal.returns-then-place-board-clause-outcome
returns-then-place-board-clause-outcome g c = λ p same.
    let all = g.B.Bank.trees c.args.board.now.bank.now in
    cannot_past all (map fact_of c.args.board.now.hyps.now) c.args.placing.now.binds.pairs c.args.placing.now.taken.items (fact_of c.args.fact.now) p (omega (arith, same, length_at all c.args.board.now.hyps.now, c.if-place-board.true))
