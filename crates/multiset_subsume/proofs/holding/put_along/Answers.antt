use Rattle.std.proofs.Common.{◌≡◌, ◌∙◌, ◌+◌, ◌∷◌, ◌<◌, ℕ, refl, ap, sym, length, map, drop, get_or, arith, add-one, drop-cons}
use Rattle.std.proofs.lemmas.Bool.{MatchBool-at_true, MatchBool-at_false}
use Rattle.std.proofs.lemmas.List.{length-map}
use Rattle.std.proofs.lemmas.Grind.{common_steps}
use Rattle.clause_form.specs.Facts.{fact_of}
use Rattle.clause_form.proofs.Comparing.{map_drop}
use Rattle.fact_placing.proofs.Listing.{unref}
use Rattle.fact_placing.proofs.Putting.{known_ref, positions_more, put_on, linked_on, put_fails, too_long}
use Rattle.multiset_subsume.proofs.holding.put_along.Goals as goal

pub returns-then-facts-row-clause-outcome : goal.returns-then-facts-row-clause-outcome
returns-then-facts-row-clause-outcome g c =
    too_long (g.B.Bank.trees c.args.board.now.bank.now) (map fact_of c.args.board.now.hyps.now) c.args.board.now.ending c.args.placing.now.binds.pairs c.args.placing.now.taken.items (map unref c.args.facts.now) c.args.row.now
    (λ e. absurd (omega (arith, e, length-map c.args.facts.now unref, c.if-facts-row.true)))

pub put_at-requires-clause-fact : goal.put_at-requires-clause-fact
put_at-requires-clause-fact g c = known_ref (g.B.Bank.trees c.args.board.now.bank.now) c.args.facts.now c.each.k c.index-facts-k.result c.index-facts-k.is c.requires.facts c.each-test.true

pub returns-then-not-branch-clause-outcome : goal.returns-then-not-branch-clause-outcome
returns-then-not-branch-clause-outcome g c =
    let all = g.B.Bank.trees c.args.board.now.bank.now in
    let facts = c.args.facts.now in
    let row = c.args.row.now in
    let k = c.each.k in
    let f = c.index-facts-k.result in
    let within : k < length row = omega (arith, c.each-test.true, c.if-facts-row.false) in
    let rest = map unref (drop (k + 1) facts) in
    let facts_are = map_drop unref facts k f c.each-test.true ∙ ap (λ h. unref h ∷ rest) (sym c.index-facts-k.is) in
    let row_is : drop k row ≡ get_or row k 0 ∷ drop (k + 1) row = drop-cons row k 0 within ∙ ap (λ (n : ℕ). get_or row k 0 ∷ drop n row) (sym (add-one k)) in
    put_fails all (map fact_of c.args.board.now.hyps.now) c.args.board.now.ending c.args.placing.now.binds.pairs c.each.placing.binds.pairs c.args.placing.now.taken.items c.each.placing.taken.items
    (map unref facts) (map unref (drop k facts)) rest (unref f) row (drop (k + 1) row) k (get_or row k 0) c.each.invariant.holds facts_are row_is (MatchBool-at_false _ _ c.if-not-branch.true c.in_ok-put_at.ensures.outcome)

pub each-preserved : goal.each-preserved
each-preserved g c =
    let all = g.B.Bank.trees c.args.board.now.bank.now in
    let hyps = map fact_of c.args.board.now.hyps.now in
    let ending = c.args.board.now.ending in
    let facts = c.args.facts.now in
    let row = c.args.row.now in
    let k = c.each.k in
    let f = c.index-facts-k.result in
    let within : k < length row = omega (arith, c.each-test.true, c.if-facts-row.false) in
    let rest = map unref (drop (k + 1) facts) in
    let facts_are = map_drop unref facts k f c.each-test.true ∙ ap (λ h. unref h ∷ rest) (sym c.index-facts-k.is) in
    let row_is : drop k row ≡ get_or row k 0 ∷ drop (k + 1) row = drop-cons row k 0 within ∙ ap (λ (n : ℕ). get_or row k 0 ∷ drop n row) (sym (add-one k)) in
    let put = MatchBool-at_true _ _ c.if-not-branch.false c.in_ok-put_at.ensures.outcome in
    let on = put_on all hyps ending c.each.placing.binds.pairs c.put_at.new.placing.binds.pairs c.each.placing.taken.items c.put_at.new.placing.taken.items (map unref (drop k facts)) rest (unref f) (drop k row) (drop (k + 1) row) (get_or row k 0) put.0 facts_are row_is put.1 put.2 in
    record {
      placing = c.put_at.ensures.placing;
      positions = positions_more row k (get_or row k 0) put.0 within refl put.1 c.each.invariant.positions;
      holds = (λ h. on.0 (c.each.invariant.holds.0 h), λ h. c.each.invariant.holds.1 (on.1 h));
      linked = λ l. linked_on all hyps ending c.each.placing.binds.pairs c.put_at.new.placing.binds.pairs c.each.placing.taken.items c.put_at.new.placing.taken.items (map unref (drop k facts)) rest (unref f) put.0 facts_are put.2 (c.each.invariant.linked l);
    }

pub returns-clause-outcome : goal.returns-clause-outcome
returns-clause-outcome g c = grind (arith, common_steps)
