use Rattle.std.proofs.Common.{map}
use Rattle.clause_form.specs.Facts.{fact_of}
use Rattle.fact_placing.proofs.Listing.{unref}
use Rattle.multiset_subsume.proofs.Along.{at_some, held_with}
use Rattle.fact_placing.specs.Boards.{IsBegun}
use Rattle.unify_match.specs.Seen.{seen}
use Rattle.multiset_subsume.proofs.holding.holds_matched.Goals as goal

pub holds_from-requires-clause-placing : goal.holds_from-requires-clause-placing
holds_from-requires-clause-placing g c =
    let begun = at_some _ c.in_ok-begun.field-0 c.in-Some.placing (λ placing. IsBegun (g.B.Bank.trees c.args.board.now.bank.now) (map fact_of c.args.board.now.hyps.now) (fact_of c.args.general.now) (fact_of c.args.special.now) placing.binds.pairs placing.taken.items) c.in-Some.is c.in_ok-begun.ensures in
    begun.placing

pub holds_from-requires-clause-linked : goal.holds_from-requires-clause-linked
holds_from-requires-clause-linked g c =
    let begun = at_some _ c.in_ok-begun.field-0 c.in-Some.placing (λ placing. IsBegun (g.B.Bank.trees c.args.board.now.bank.now) (map fact_of c.args.board.now.hyps.now) (fact_of c.args.general.now) (fact_of c.args.special.now) placing.binds.pairs placing.taken.items) c.in-Some.is c.in_ok-begun.ensures in
    c.requires.linked (seen (g.B.Bank.trees c.args.board.now.bank.now) c.in-Some.placing.binds.pairs) begun.matched

pub returns-in-Some : goal.returns-in-Some
returns-in-Some g c = held_with (g.B.Bank.trees c.args.board.now.bank.now) (map fact_of c.args.board.now.hyps.now) c.args.board.now.ending (map unref c.args.facts.now) (fact_of c.args.general.now) (fact_of c.args.special.now) c.in-Some.placing.binds.pairs c.in-Some.placing.taken.items c.args.row.now c.holds_from.result (at_some _ c.in_ok-begun.field-0 c.in-Some.placing (λ placing. IsBegun (g.B.Bank.trees c.args.board.now.bank.now) (map fact_of c.args.board.now.hyps.now) (fact_of c.args.general.now) (fact_of c.args.special.now) placing.binds.pairs placing.taken.items) c.in-Some.is c.in_ok-begun.ensures) c.holds_from.ensures
