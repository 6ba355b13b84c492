use Rattle.std.proofs.Common.{map, arith}
use Rattle.std.proofs.lemmas.Bool.{MatchBool-at_true}
use Rattle.std.proofs.lemmas.Grind.{common_steps}
use Rattle.clause_form.specs.Facts.{fact_of}
use Rattle.fact_placing.proofs.Putting.{is_taken_back}
use Rattle.fact_placing.proofs.placing.fits.Goals as goal

pub returns-clause-same : goal.returns-clause-same
returns-clause-same g c =
    is_taken_back (g.B.Bank.trees c.args.board.now.bank.now) (map fact_of c.args.board.now.hyps.now) c.args.placing.now.binds.pairs c.put.new.placing.binds.pairs c.take_back.new.placing.binds.pairs
    c.args.placing.now.taken.items c.put.new.placing.taken.items c.take_back.new.placing.taken.items (fact_of c.args.fact.now) c.args.p c.level-level.result
    c.level-level.ensures (MatchBool-at_true _ _ c.if-not-branch.false c.in_ok-put.ensures.outcome) c.put.ensures.extends c.take_back.ensures.bindings c.take_back.ensures.flags

pub take_back-requires-clause-position : goal.take_back-requires-clause-position
take_back-requires-clause-position g c = grind (arith, common_steps)

pub take_back-requires-clause-level : goal.take_back-requires-clause-level
take_back-requires-clause-level g c = grind (arith, common_steps)
