use Rattle.std.proofs.Common.{◌≡◌, ◌∙◌, ◌∷◌, ◌+◌, ℕ, List, map, length, get_or, refl, ap, sym, subst, arith, rules, Bor, IfOk, MatchOption, ◌<◌}
use Rattle.std.specs.Prelude.{remove}
use Rattle.std.proofs.lemmas.Grind.{common_steps}
use Rattle.std.proofs.lemmas.List.{length-map}
use Rattle.clause_form.specs.declared.facts.Fact.{Fact}
use Rattle.std.proofs.lemmas.Bool.{MatchBool-at_true, MatchBool-at_false}
use Rattle.clause_form.specs.Facts.{fact_of}
use Rattle.clause_form.specs.Seen.{AreFactsIn}
use Rattle.fact_placing.specs.Boards.{HoldsOn, CanPlaceOn}
use Rattle.fact_placing.proofs.Listing.{unref}
use Rattle.fact_placing.proofs.Putting.{linked_on, known_ref}
use Rattle.multiset_subsume.proofs.Along.{at_some}
use Rattle.multiset_subsume.proofs.Keeping.{is_taken_back_later, as_before-trans, as_back, placing_as, linked_as}
use Rattle.multiset_subsume.proofs.Searching.{placed_nothing, stand_told, placed_told, linked_front, known_removed, row_length, cannot_stand}
use Rattle.multiset_subsume.proofs.Parting.{at_none}
use Rattle.multiset_subsume.proofs.search.+placing.Goals as goal

pub can_place-returns-then-not-branch-clause-outcome : goal.can_place-returns-then-not-branch-clause-outcome
can_place-returns-then-not-branch-clause-outcome g t c = MatchBool-at_false _ _ c.if-not-branch.true c.in_ok-may_go_on.ensures (map unref c.args.unplaced.now)

pub can_place-returns-then-is_empty-clause-outcome : goal.can_place-returns-then-is_empty-clause-outcome
can_place-returns-then-is_empty-clause-outcome g t c =
    let all = g.B.Bank.trees c.args.board.now.bank.now in
    let hyps = map fact_of c.args.board.now.hyps.now in
    let unplaced = map unref c.args.unplaced.now in
    let none : length unplaced ≡ 0 = grind (arith, common_steps, length-map c.args.unplaced.now unref) in
    subst (λ (row : List ℕ). HoldsOn all hyps c.args.board.now.ending c.args.placing.now.binds.pairs c.args.placing.now.taken.items unplaced row) (sym c.new.ensures.items)
    (placed_nothing all hyps c.args.board.now.ending c.args.placing.now.binds.pairs c.args.placing.now.taken.items unplaced none c.requires.linked (MatchBool-at_true _ _ c.if-not-branch.false c.in_ok-may_go_on.ensures))

pub can_stand-can_place-found-requires : goal.can_stand-can_place-found-requires
can_stand-can_place-found-requires g t c κs within =
    let all = g.B.Bank.trees c.args.board.now.bank.now in
    let hyps = map fact_of c.args.board.now.hyps.now in
    let put = MatchBool-at_true _ _ c.if-not-branch.false c.in_ok-put.ensures.outcome in
    let rest = map unref c.args.rest.now in
    let fact = fact_of c.args.fact.now in
    let linked = linked_on all hyps c.args.board.now.ending c.args.placing.now.binds.pairs c.put.new.placing.binds.pairs c.args.placing.now.taken.items c.put.new.placing.taken.items (fact ∷ rest) rest fact c.args.p refl put c.requires.linked in
    (omega (arith, c.decreases), (within, (c.requires.board, (c.put.ensures.placing, (c.requires.rest, (linked, c.requires.ending))))))

pub can_stand-returns-clause-same : goal.can_stand-returns-clause-same
can_stand-returns-clause-same g t c =
    let put = MatchBool-at_true _ _ c.if-not-branch.false c.in_ok-put.ensures.outcome in
    is_taken_back_later (g.B.Bank.trees c.args.board.now.bank.now) (map fact_of c.args.board.now.hyps.now) c.args.placing.now.binds.pairs c.put.new.placing.binds.pairs c.can_place-found.new.placing.binds.pairs c.take_back.new.placing.binds.pairs
    c.args.placing.now.taken.items c.put.new.placing.taken.items c.can_place-found.new.placing.taken.items c.take_back.new.placing.taken.items (fact_of c.args.fact.now) c.args.p c.level-level.result
    c.level-level.ensures put c.put.ensures.extends c.can_place-found.ensures.same c.take_back.ensures.bindings c.take_back.ensures.flags

pub can_stand-returns-clause-outcome : goal.can_stand-returns-clause-outcome
can_stand-returns-clause-outcome g t c =
    let put = MatchBool-at_true _ _ c.if-not-branch.false c.in_ok-put.ensures.outcome in
    stand_told (g.B.Bank.trees c.args.board.now.bank.now) (map fact_of c.args.board.now.hyps.now) c.args.board.now.ending c.args.placing.now.binds.pairs c.put.new.placing.binds.pairs c.args.placing.now.taken.items c.put.new.placing.taken.items
    (fact_of c.args.fact.now) (map unref c.args.rest.now) c.args.p c.can_place-found.result (λ row. row.items) put c.can_place-found.ensures.outcome

pub place_beside-insert-requires : goal.place_beside-insert-requires
place_beside-insert-requires g t c =
    let all = g.B.Bank.trees c.args.board.now.bank.now in
    let hyps = map fact_of c.args.board.now.hyps.now in
    let ending = c.args.board.now.ending in
    let fact = fact_of c.args.fact.now in
    let held = at_some _ c.in_ok-can_stand.field-0 c.in-Some.row (λ row. HoldsOn all hyps ending c.each.placing.binds.pairs c.each.placing.taken.items (fact ∷ map unref c.args.rest.now) (c.each.p ∷ row.items)) c.in-Some.is c.in_ok-can_stand.ensures.outcome in
    let long = row_length all hyps ending c.each.placing.binds.pairs c.each.placing.taken.items fact c.args.rest.now c.each.p c.in-Some.row.items held in
    omega (arith, long, c.in-Some.row.ok.0, c.requires.index)

pub place_beside-returns-clause-outcome : goal.place_beside-returns-clause-outcome
place_beside-returns-clause-outcome g t c = λ p within stand. c.each.invariant.before p (omega (arith, within, c.each-test.false)) stand

pub place_some-place_beside-requires : goal.place_some-place_beside-requires
place_some-place_beside-requires g t c κs within =
    let all = g.B.Bank.trees c.args.board.now.bank.now in
    let hyps = map fact_of c.args.board.now.hyps.now in
    let ending = c.args.board.now.ending in
    let unplaced = c.args.unplaced.now in
    let at = c.args.at in
    let f = c.remove-fact.result in
    let same : c.in_ok-rest.rest.items ≡ c.args.unplaced.now = search rules in
    let is : f ≡ get_or unplaced at f = c.remove-fact.ensures.value ∙ ap (λ (xs : List (Bor Fact)). get_or xs at f) same in
    let rest_is : c.deref.result.now ≡ remove unplaced at = c.deref.ensures.value ∙ (c.remove-fact.ensures.items ∙ ap (λ (xs : List (Bor Fact)). remove xs at) same) in
    let shorter : length c.deref.result.now + 1 ≡ length unplaced = omega (arith, c.deref.ensures.len, c.remove-fact.ensures.len, c.in_ok-rest.ensures.len) in
    let known = known_ref all unplaced at f is c.requires.facts c.requires.index in
    let others : AreFactsIn all (map unref c.deref.result.now) = subst (λ (fs : List (Bor Fact)). AreFactsIn all (map unref fs)) (sym rest_is) (known_removed all unplaced at c.requires.facts) in
    let linked = linked_front all hyps ending c.args.placing.now.binds.pairs c.args.placing.now.taken.items unplaced c.deref.result.now at f is c.requires.index rest_is c.requires.linked in
    (omega (arith, c.decreases, shorter), (within, (c.requires.board, (c.requires.placing, (known, (others, (linked, (omega (arith, shorter, c.requires.index), c.requires.ending))))))))

pub place_some-returns-clause-outcome : goal.place_some-returns-clause-outcome
place_some-returns-clause-outcome g t c =
    let unplaced = c.args.unplaced.now in
    let at = c.args.at in
    let f = c.remove-fact.result in
    let same : c.in_ok-rest.rest.items ≡ c.args.unplaced.now = search rules in
    let is : f ≡ get_or unplaced at f = c.remove-fact.ensures.value ∙ ap (λ (xs : List (Bor Fact)). get_or xs at f) same in
    let rest_is : c.deref.result.now ≡ remove unplaced at = c.deref.ensures.value ∙ (c.remove-fact.ensures.items ∙ ap (λ (xs : List (Bor Fact)). remove xs at) same) in
    placed_told (g.B.Bank.trees c.args.board.now.bank.now) (map fact_of c.args.board.now.hyps.now) c.args.board.now.ending c.args.placing.now.binds.pairs c.args.placing.now.taken.items c.place_beside.result (λ row. row.items)
    unplaced c.deref.result.now at (length c.args.board.now.hyps.now) f (omega (arith, length-map c.args.board.now.hyps.now fact_of)) is c.requires.index rest_is c.requires.placing c.place_beside.ensures.outcome

pub can_stand-take_back-requires-clause-position : goal.can_stand-take_back-requires-clause-position
can_stand-take_back-requires-clause-position g t c = grind (arith, common_steps)

pub can_stand-take_back-requires-clause-level : goal.can_stand-take_back-requires-clause-level
can_stand-take_back-requires-clause-level g t c = grind (arith, common_steps)

pub can_place-place_some-requires : goal.can_place-place_some-requires
can_place-place_some-requires g t c κs within = (omega (arith, c.decreases), (within, (c.requires.board, (placing_as (g.B.Bank.trees c.args.board.now.bank.now) (map fact_of c.args.board.now.hyps.now) c.args.placing.now.binds.pairs c.next_of.new.placing.binds.pairs c.args.placing.now.taken.items c.next_of.new.placing.taken.items c.next_of.ensures.same c.requires.placing, (c.requires.facts, (linked_as (g.B.Bank.trees c.args.board.now.bank.now) c.args.board.now.ending c.args.placing.now.binds.pairs c.next_of.new.placing.binds.pairs c.args.placing.now.taken.items c.next_of.new.placing.taken.items (map unref c.args.unplaced.now) c.next_of.ensures.same c.requires.linked, (at_some _ c.in_ok-next_of.field-0 c.in-Some.at (λ (at : ℕ). at < length c.args.unplaced.now) c.in-Some.is c.in_ok-next_of.ensures.outcome, c.requires.ending)))))))

pub place_beside-can_stand-requires : goal.place_beside-can_stand-requires
place_beside-can_stand-requires g t c κs within = (omega (arith, c.decreases), (within, (c.requires.board, (placing_as (g.B.Bank.trees c.args.board.now.bank.now) (map fact_of c.args.board.now.hyps.now) c.args.placing.now.binds.pairs c.each.placing.binds.pairs c.args.placing.now.taken.items c.each.placing.taken.items c.each.invariant.same c.requires.placing, (c.requires.fact, (c.requires.rest, (linked_as (g.B.Bank.trees c.args.board.now.bank.now) c.args.board.now.ending c.args.placing.now.binds.pairs c.each.placing.binds.pairs c.args.placing.now.taken.items c.each.placing.taken.items ((fact_of c.args.fact.now) ∷ map unref c.args.rest.now) c.each.invariant.same c.requires.linked, (omega (arith, c.each-test.true), c.requires.ending))))))))

pub can_place-returns-in-Some-clause-outcome : goal.can_place-returns-in-Some-clause-outcome
can_place-returns-in-Some-clause-outcome g t c = as_back (λ pairs flags. IfOk c.place_some.result (λ found. MatchOption found (CanPlaceOn (g.B.Bank.trees c.args.board.now.bank.now) (map fact_of c.args.board.now.hyps.now) c.args.board.now.ending pairs flags (map unref c.args.unplaced.now) → ⊥) (λ row. HoldsOn (g.B.Bank.trees c.args.board.now.bank.now) (map fact_of c.args.board.now.hyps.now) c.args.board.now.ending pairs flags (map unref c.args.unplaced.now) row.items))) c.args.placing.now.binds.pairs c.next_of.new.placing.binds.pairs c.args.placing.now.taken.items c.next_of.new.placing.taken.items c.next_of.ensures.same c.place_some.ensures.outcome

pub can_place-returns-in-Some-clause-same : goal.can_place-returns-in-Some-clause-same
can_place-returns-in-Some-clause-same g t c = as_before-trans c.args.placing.now.binds.pairs c.next_of.new.placing.binds.pairs c.place_some.new.placing.binds.pairs c.args.placing.now.taken.items c.next_of.new.placing.taken.items c.place_some.new.placing.taken.items c.next_of.ensures.same c.place_some.ensures.same

pub can_place-returns-in-None-clause-outcome : goal.can_place-returns-in-None-clause-outcome
can_place-returns-in-None-clause-outcome g t c = at_none (CanPlaceOn (g.B.Bank.trees c.args.board.now.bank.now) (map fact_of c.args.board.now.hyps.now) c.args.board.now.ending c.args.placing.now.binds.pairs c.args.placing.now.taken.items (map unref c.args.unplaced.now) → ⊥) c.in_ok-next_of.field-0 (λ (at : ℕ). at < length c.args.unplaced.now) c.in-None.is c.in_ok-next_of.ensures.outcome

pub can_place-returns-in-None-clause-same : goal.can_place-returns-in-None-clause-same
can_place-returns-in-None-clause-same g t c = c.next_of.ensures.same

pub place_beside-returns-in_err-insert-in-Some-clause-same : goal.place_beside-returns-in_err-insert-in-Some-clause-same
place_beside-returns-in_err-insert-in-Some-clause-same g t c = as_before-trans c.args.placing.now.binds.pairs c.each.placing.binds.pairs c.can_stand.new.placing.binds.pairs c.args.placing.now.taken.items c.each.placing.taken.items c.can_stand.new.placing.taken.items c.each.invariant.same c.can_stand.ensures.same

pub place_beside-returns-in-Some-clause-same : goal.place_beside-returns-in-Some-clause-same
place_beside-returns-in-Some-clause-same g t c = as_before-trans c.args.placing.now.binds.pairs c.each.placing.binds.pairs c.can_stand.new.placing.binds.pairs c.args.placing.now.taken.items c.each.placing.taken.items c.can_stand.new.placing.taken.items c.each.invariant.same c.can_stand.ensures.same

pub can_stand-returns-then-not-branch-clause-outcome : goal.can_stand-returns-then-not-branch-clause-outcome
can_stand-returns-then-not-branch-clause-outcome g t c = cannot_stand (g.B.Bank.trees c.args.board.now.bank.now) (map fact_of c.args.board.now.hyps.now) c.args.board.now.ending c.args.placing.now.binds.pairs c.args.placing.now.taken.items (fact_of c.args.fact.now) (map unref c.args.rest.now) c.args.p (MatchBool-at_false _ _ c.if-not-branch.true c.in_ok-put.ensures.outcome)

pub can_stand-returns-then-not-branch-clause-same : goal.can_stand-returns-then-not-branch-clause-same
can_stand-returns-then-not-branch-clause-same g t c = c.in_ok-put.ensures.refused c.if-not-branch.true

pub place_beside-returns-in-Some-clause-outcome : goal.place_beside-returns-in-Some-clause-outcome
place_beside-returns-in-Some-clause-outcome g t c = grind (arith, common_steps)
