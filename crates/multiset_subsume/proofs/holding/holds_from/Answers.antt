use Rattle.std.proofs.Common.{map}
use Rattle.std.proofs.lemmas.Bool.{MatchBool-at_true}
use Rattle.clause_form.specs.Facts.{fact_of}
use Rattle.fact_placing.proofs.Listing.{unref}
use Rattle.multiset_subsume.proofs.Along.{held_along}
use Rattle.multiset_subsume.proofs.holding.holds_from.Goals as goal

pub returns : goal.returns
returns g c =
    held_along (g.B.Bank.trees c.args.board.now.bank.now) (map fact_of c.args.board.now.hyps.now) c.args.board.now.ending c.args.placing.binds.pairs c.put_along.new.placing.binds.pairs c.args.placing.taken.items c.put_along.new.placing.taken.items
    (map unref c.args.facts.now) c.args.row.now c.may_go_on.result c.put_along.ensures.placing c.requires.linked (MatchBool-at_true _ _ c.if-not-branch.false c.in_ok-put_along.ensures.outcome) c.may_go_on.ensures
