use Rattle.std.proofs.Common.{map, arith, ◌∷◌}
use Rattle.std.proofs.lemmas.List.{length-map}
use Rattle.clause_form.specs.Facts.{fact_of}
use Rattle.fact_placing.proofs.Listing.{unref}
use Rattle.multiset_subsume.proofs.FirstRows.{least_known, first_within, least_found}
use Rattle.multiset_subsume.proofs.Keeping.{placing_as, linked_as, as_before-trans, as_back}
use Rattle.multiset_subsume.proofs.Along.{at_some}
use Rattle.fact_placing.specs.Boards.{HoldsOn}
use Rattle.multiset_subsume.proofs.covering.least_row.Goals as goal

pub returns-clause-outcome : goal.returns-clause-outcome
returns-clause-outcome g c =
    least_known (g.B.Bank.trees c.args.board.now.bank.now) (map fact_of c.args.board.now.hyps.now) c.args.board.now.ending (fact_of c.args.fact.now) (map unref c.args.rest.now) c.args.placing.now.binds.pairs c.args.placing.now.taken.items
    c.args.known.items c.index-end.result.now c.index-end.result.now c.index-end.ensures c.requires.known (λ q below. c.each.invariant.before q (omega (arith, below, c.each-test.false)))

pub stands_apart-requires-clause-placing : goal.stands_apart-requires-clause-placing
stands_apart-requires-clause-placing g c = placing_as (g.B.Bank.trees c.args.board.now.bank.now) (map fact_of c.args.board.now.hyps.now) c.args.placing.now.binds.pairs c.each.placing.binds.pairs c.args.placing.now.taken.items c.each.placing.taken.items c.each.invariant.same c.requires.placing

pub stands_apart-requires-clause-linked : goal.stands_apart-requires-clause-linked
stands_apart-requires-clause-linked g c = linked_as (g.B.Bank.trees c.args.board.now.bank.now) c.args.board.now.ending c.args.placing.now.binds.pairs c.each.placing.binds.pairs c.args.placing.now.taken.items c.each.placing.taken.items (fact_of c.args.fact.now ∷ map unref c.args.rest.now) c.each.invariant.same c.requires.linked

pub stands_apart-requires-clause-position : goal.stands_apart-requires-clause-position
stands_apart-requires-clause-position g c =
    let inside = first_within (g.B.Bank.trees c.args.board.now.bank.now) (map fact_of c.args.board.now.hyps.now) c.args.board.now.ending (fact_of c.args.fact.now) (map unref c.args.rest.now) c.args.placing.now.binds.pairs c.args.placing.now.taken.items c.args.known.items c.index-end.result.now c.requires.known in
    omega (arith, inside, length-map c.args.board.now.hyps.now fact_of, c.index-end.ensures, c.each-test.true)

pub returns-in-Some-clause-outcome : goal.returns-in-Some-clause-outcome
returns-in-Some-clause-outcome g c = least_found (g.B.Bank.trees c.args.board.now.bank.now) (map fact_of c.args.board.now.hyps.now) c.args.board.now.ending (fact_of c.args.fact.now) (map unref c.args.rest.now) c.args.placing.now.binds.pairs c.args.placing.now.taken.items c.in-Some.row.items c.insert.new.self.items c.each.p c.in_ok-insert-in-Some.ensures.items (as_back (λ pairs flags. HoldsOn (g.B.Bank.trees c.args.board.now.bank.now) (map fact_of c.args.board.now.hyps.now) c.args.board.now.ending pairs flags ((fact_of c.args.fact.now) ∷ map unref c.args.rest.now) (c.each.p ∷ c.in-Some.row.items)) c.args.placing.now.binds.pairs c.each.placing.binds.pairs c.args.placing.now.taken.items c.each.placing.taken.items c.each.invariant.same (at_some _ c.in_ok-stands_apart.field-0 c.in-Some.row (λ row. HoldsOn (g.B.Bank.trees c.args.board.now.bank.now) (map fact_of c.args.board.now.hyps.now) c.args.board.now.ending c.each.placing.binds.pairs c.each.placing.taken.items ((fact_of c.args.fact.now) ∷ map unref c.args.rest.now) (c.each.p ∷ row.items)) c.in-Some.is c.in_ok-stands_apart.ensures.outcome)) c.each.invariant.before

pub returns-in-Some-clause-same : goal.returns-in-Some-clause-same
returns-in-Some-clause-same g c = as_before-trans c.args.placing.now.binds.pairs c.each.placing.binds.pairs c.stands_apart.new.placing.binds.pairs c.args.placing.now.taken.items c.each.placing.taken.items c.stands_apart.new.placing.taken.items c.each.invariant.same c.stands_apart.ensures.same

pub returns-in_err-insert-in-Some-clause-same : goal.returns-in_err-insert-in-Some-clause-same
returns-in_err-insert-in-Some-clause-same g c = as_before-trans c.args.placing.now.binds.pairs c.each.placing.binds.pairs c.stands_apart.new.placing.binds.pairs c.args.placing.now.taken.items c.each.placing.taken.items c.stands_apart.new.placing.taken.items c.each.invariant.same c.stands_apart.ensures.same
