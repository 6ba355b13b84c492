use Rattle.std.proofs.Common.{◌≡◌, ◌∙◌, ℕ, None, List, length, map, ap, sym, subst, arith}
use Rattle.std.specs.Prelude.{IfSome}
use Rattle.std.proofs.lemmas.List.{length-map}
use Rattle.spec_translation.specs.Satisfied.{IsSatisfied}
use Rattle.pi_tree.specs.Protocols.{protocol_of}
use Rattle.pi_tree.specs.Queries.{query_of}
use Rattle.clause_form.specs.Seen.{clause_at, fact_at}
use Rattle.query_derive.specs.Sought.{Sought, all_sought, HoldsAmong, IsFirstAmong}
use Rattle.query_derive.specs.Wanted.{sought_of}
use Rattle.query_derive.specs.GoalRows.{IsFirstGoalRow, OfQuery, row_of}
use Rattle.query_derive.proofs.Searching.{if_ok_map, if_some_map}
use Rattle.query_derive.proofs.Deciding.{small_query, few_sought, few_hypotheses, first_goal_row, satisfied_by_rows, goal_holds, of_query}
use Rattle.query_derive.proofs.satisfying.satisfies.Goals as goal

pub all_wanted-requires : goal.all_wanted-requires
all_wanted-requires g c = small_query (protocol_of c.args.protocol.now) c.args.query (query_of c.query.result.now) c.requires.limits c.query.ensures

pub first_row-requires-clause-few : goal.first_row-requires-clause-few
first_row-requires-clause-few g c =
    let all = g.B.Bank.trees c.args.bank.now in
    omega (arith, few_hypotheses (clause_at all c.args.clause.now) c.requires.small, length-map c.args.clause.now.hypotheses (fact_at all))

pub first_row-requires-clause-alternatives : goal.first_row-requires-clause-alternatives
first_row-requires-clause-alternatives g c =
    let P = protocol_of c.args.protocol.now in
    let q = query_of c.query.result.now in
    let are : map sought_of c.deref.result.now ≡ all_sought P q = ap (map sought_of) c.deref.ensures.value ∙ c.in_ok-all.ensures in
    omega (arith, few_sought P q (small_query P c.args.query q c.requires.limits c.query.ensures), ap (λ (l : List Sought). length l) are, length-map c.deref.result.now sought_of)

pub returns-clause-first : goal.returns-clause-first
returns-clause-first g c =
    let P = protocol_of c.args.protocol.now in
    let q = query_of c.query.result.now in
    let seen = clause_at (g.B.Bank.trees c.args.bank.now) c.args.clause.now in
    let are : map sought_of c.deref.result.now ≡ all_sought P q = ap (map sought_of) c.deref.ensures.value ∙ c.in_ok-all.ensures in
    if_ok_map c.first_row.result (λ found. IfSome found (λ row. IsFirstAmong (map sought_of c.deref.result.now) seen (row_of row))) (λ found. IfSome found (λ row. OfQuery P c.args.query (λ p. IsFirstGoalRow P p seen (row_of row))))
    (λ found. if_some_map found (λ row. IsFirstAmong (map sought_of c.deref.result.now) seen (row_of row)) (λ row. OfQuery P c.args.query (λ p. IsFirstGoalRow P p seen (row_of row)))
    (λ row h. of_query P c.args.query q (λ p. IsFirstGoalRow P p seen (row_of row)) c.query.ensures (first_goal_row P q seen (row_of row) (subst (λ (l : List Sought). IsFirstAmong l seen (row_of row)) are h)))) c.first_row.ensures.some

pub returns-clause-satisfied : goal.returns-clause-satisfied
returns-clause-satisfied g c =
    let P = protocol_of c.args.protocol.now in
    let q = query_of c.query.result.now in
    let seen = clause_at (g.B.Bank.trees c.args.bank.now) c.args.clause.now in
    let are : map sought_of c.deref.result.now ≡ all_sought P q = ap (map sought_of) c.deref.ensures.value ∙ c.in_ok-all.ensures in
    if_ok_map c.first_row.result (λ found. IfSome found (λ row. IsFirstAmong (map sought_of c.deref.result.now) seen (row_of row))) (λ found. IfSome found (λ row. OfQuery P c.args.query (λ p. IsSatisfied P p seen)))
    (λ found. if_some_map found (λ row. IsFirstAmong (map sought_of c.deref.result.now) seen (row_of row)) (λ row. OfQuery P c.args.query (λ p. IsSatisfied P p seen))
    (λ row h. of_query P c.args.query q (λ p. IsSatisfied P p seen) c.query.ensures ((satisfied_by_rows P q seen).1 (row_of row, (first_goal_row P q seen (row_of row) (subst (λ (l : List Sought). IsFirstAmong l seen (row_of row)) are h)).holds)))) c.first_row.ensures.some

pub returns-clause-unsatisfied : goal.returns-clause-unsatisfied
returns-clause-unsatisfied g c =
    let P = protocol_of c.args.protocol.now in
    let q = query_of c.query.result.now in
    let seen = clause_at (g.B.Bank.trees c.args.bank.now) c.args.clause.now in
    let are : map sought_of c.deref.result.now ≡ all_sought P q = ap (map sought_of) c.deref.ensures.value ∙ c.in_ok-all.ensures in
    if_ok_map c.first_row.result (λ found. found ≡ None → (row : List ℕ) → HoldsAmong (map sought_of c.deref.result.now) seen row → ⊥) (λ found. found ≡ None → OfQuery P c.args.query (λ p. IsSatisfied P p seen → ⊥))
    (λ found never none. of_query P c.args.query q (λ p. IsSatisfied P p seen → ⊥) c.query.ensures
    (λ met. let row = (satisfied_by_rows P q seen).0 met in never none row.0 (subst (λ (l : List Sought). HoldsAmong l seen row.0) (sym are) ((goal_holds P q seen row.0).0 row.1)))) c.first_row.ensures.none
