use Rattle.std.proofs.Common.{map}
use Rattle.std.proofs.lemmas.Bool.{MatchBool-at_true, MatchBool-at_false}
use Rattle.clause_form.specs.Facts.{fact_of}
use Rattle.multiset_subsume.proofs.Along.{loose_nowhere, kept_told}
use Rattle.multiset_subsume.proofs.ending.may_go_on.Goals as goal

pub returns-then-not-branch : goal.returns-then-not-branch
returns-then-not-branch g c = λ facts.
    loose_nowhere (g.B.Bank.trees c.args.board.now.bank.now) (map fact_of c.args.board.now.hyps.now) c.args.board.now.ending c.args.placing.now.binds.pairs c.args.placing.now.taken.items facts
    (MatchBool-at_false _ _ c.if-not-branch.true c.in_ok-loose_may_stand.ensures)

pub returns : goal.returns
returns g c =
    kept_told (g.B.Bank.trees c.args.board.now.bank.now) (map fact_of c.args.board.now.hyps.now) c.args.board.now.ending c.args.placing.now.binds.pairs c.args.placing.now.taken.items c.are_kept.result c.requires.placing
    (MatchBool-at_true _ _ c.if-not-branch.false c.in_ok-loose_may_stand.ensures) c.are_kept.ensures
