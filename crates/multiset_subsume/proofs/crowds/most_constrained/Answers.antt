use Rattle.std.proofs.Common.{map}
use Rattle.fact_placing.proofs.Putting.{known_ref}
use Rattle.clause_form.specs.Facts.{fact_of}
use Rattle.multiset_subsume.proofs.Keeping.{placing_as}
use Rattle.multiset_subsume.proofs.crowds.most_constrained.Goals as goal

pub count_fitting-requires-clause-fact : goal.count_fitting-requires-clause-fact
count_fitting-requires-clause-fact g c = known_ref (g.B.Bank.trees c.args.board.now.bank.now) c.args.unplaced.now c.each.i c.index-unplaced-i.result c.index-unplaced-i.is c.requires.facts c.each-test.true

pub count_fitting-requires-clause-placing : goal.count_fitting-requires-clause-placing
count_fitting-requires-clause-placing g c = placing_as (g.B.Bank.trees c.args.board.now.bank.now) (map fact_of c.args.board.now.hyps.now) c.args.placing.now.binds.pairs c.each.placing.binds.pairs c.args.placing.now.taken.items c.each.placing.taken.items c.each.invariant.same c.requires.placing
