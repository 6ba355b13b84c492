use Rattle.std.proofs.Common.{map}
use Rattle.clause_form.specs.Facts.{fact_of}
use Rattle.multiset_subsume.proofs.Keeping.{placing_as}
use Rattle.multiset_subsume.proofs.crowds.count_fitting.Goals as goal

pub fits-requires-clause-placing : goal.fits-requires-clause-placing
fits-requires-clause-placing g c = placing_as (g.B.Bank.trees c.args.board.now.bank.now) (map fact_of c.args.board.now.hyps.now) c.args.placing.now.binds.pairs c.each.placing.binds.pairs c.args.placing.now.taken.items c.each.placing.taken.items c.each.invariant.same c.requires.placing
