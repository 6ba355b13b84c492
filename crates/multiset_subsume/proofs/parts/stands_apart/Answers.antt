use Rattle.std.proofs.Common.{◌∷◌, map, refl, arith}
use Rattle.std.proofs.lemmas.Bool.{MatchBool-at_true, MatchBool-at_false}
use Rattle.std.proofs.lemmas.Grind.{common_steps}
use Rattle.clause_form.specs.Facts.{fact_of}
use Rattle.fact_placing.proofs.Listing.{unref}
use Rattle.fact_placing.proofs.Putting.{linked_on}
use Rattle.multiset_subsume.proofs.Keeping.{is_taken_back_later}
use Rattle.multiset_subsume.proofs.Searching.{stand_told, cannot_stand}
use Rattle.multiset_subsume.proofs.parts.stands_apart.Goals as goal

pub placed_apart-found-requires-clause-linked : goal.placed_apart-found-requires-clause-linked
placed_apart-found-requires-clause-linked g c =
    let put = MatchBool-at_true _ _ c.if-not-branch.false c.in_ok-put.ensures.outcome in
    let rest = map unref c.args.rest.now in
    let fact = fact_of c.args.fact.now in
    linked_on (g.B.Bank.trees c.args.board.now.bank.now) (map fact_of c.args.board.now.hyps.now) c.args.board.now.ending c.args.placing.now.binds.pairs c.put.new.placing.binds.pairs c.args.placing.now.taken.items c.put.new.placing.taken.items (fact ∷ rest) rest fact c.args.p refl put c.requires.linked

pub returns-clause-same : goal.returns-clause-same
returns-clause-same g c =
    let put = MatchBool-at_true _ _ c.if-not-branch.false c.in_ok-put.ensures.outcome in
    is_taken_back_later (g.B.Bank.trees c.args.board.now.bank.now) (map fact_of c.args.board.now.hyps.now) c.args.placing.now.binds.pairs c.put.new.placing.binds.pairs c.placed_apart-found.new.placing.binds.pairs c.take_back.new.placing.binds.pairs
    c.args.placing.now.taken.items c.put.new.placing.taken.items c.placed_apart-found.new.placing.taken.items c.take_back.new.placing.taken.items (fact_of c.args.fact.now) c.args.p c.level-level.result
    c.level-level.ensures put c.put.ensures.extends c.placed_apart-found.ensures.same c.take_back.ensures.bindings c.take_back.ensures.flags

pub returns-clause-outcome : goal.returns-clause-outcome
returns-clause-outcome g c =
    let put = MatchBool-at_true _ _ c.if-not-branch.false c.in_ok-put.ensures.outcome in
    stand_told (g.B.Bank.trees c.args.board.now.bank.now) (map fact_of c.args.board.now.hyps.now) c.args.board.now.ending c.args.placing.now.binds.pairs c.put.new.placing.binds.pairs c.args.placing.now.taken.items c.put.new.placing.taken.items
    (fact_of c.args.fact.now) (map unref c.args.rest.now) c.args.p c.placed_apart-found.result (λ row. row.items) put c.placed_apart-found.ensures.outcome

pub take_back-requires-clause-position : goal.take_back-requires-clause-position
take_back-requires-clause-position g c = grind (arith, common_steps)

pub take_back-requires-clause-level : goal.take_back-requires-clause-level
take_back-requires-clause-level g c = grind (arith, common_steps)

pub returns-then-not-branch-clause-outcome : goal.returns-then-not-branch-clause-outcome
returns-then-not-branch-clause-outcome g c = cannot_stand (g.B.Bank.trees c.args.board.now.bank.now) (map fact_of c.args.board.now.hyps.now) c.args.board.now.ending c.args.placing.now.binds.pairs c.args.placing.now.taken.items (fact_of c.args.fact.now) (map unref c.args.rest.now) c.args.p (MatchBool-at_false _ _ c.if-not-branch.true c.in_ok-put.ensures.outcome)

pub returns-then-not-branch-clause-same : goal.returns-then-not-branch-clause-same
returns-then-not-branch-clause-same g c = c.in_ok-put.ensures.refused c.if-not-branch.true
