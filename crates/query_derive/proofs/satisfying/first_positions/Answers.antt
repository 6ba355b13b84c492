use Rattle.std.proofs.Common.{◌≡◌, ◌∙◌, ℕ, None, List, map, ap, sym, rules, arith}
use Rattle.std.specs.Prelude.{IfSome}
use Rattle.clause_form.specs.Facts.{fact_of}
use Rattle.clause_form.specs.Seen.{fact_at, clause_at}
use Rattle.query_derive.specs.Sought.{IsRowFor, IsFirstRowFor}
use Rattle.query_derive.specs.Narrowing.{ArePlaced, AreFirstPlaced}
use Rattle.query_derive.specs.Wanted.{event_fact, sought_of}
use Rattle.query_derive.proofs.Searching.{if_ok_map, if_some_map}
use Rattle.query_derive.proofs.Deciding.{concluded, unconcluded, first_seen, placed_seen, first_for, placed_for, no_row_for}
use Rattle.std.proofs.lemmas.Grind.{common_steps}
use Rattle.query_derive.proofs.satisfying.first_positions.Goals as goal

pub returns-clause-some : goal.returns-clause-some
returns-clause-some g c =
    let all = g.B.Bank.trees c.args.bank.now in
    let sought = sought_of c.args.wanted.now in
    let seen = clause_at all c.args.clause.now in
    let new = c.match_bad.new.binds.pairs in
    let es = map event_fact c.deref-2.result.now in
    let hs = map (fact_at all) (map fact_of c.deref.result.now) in
    let events_are : es ≡ sought.events = ap (map event_fact) c.deref-2.ensures.value in
    let hyps_are : hs ≡ seen.hypotheses = ap (map (fact_at all)) (search rules) in
    let concl_is = ap (λ k. fact_at all (fact_of k.concl)) c.clause-inside.view_is ∙ ap (λ k. fact_at all k.conclusion) c.clause.view_is in
    let step = concluded all sought seen c.in_ok-binds.binds.pairs new _ c.in_ok-binds.ensures.none concl_is (c.in_ok-match_bad.ensures.yes c.if-not-branch.false) in
    if_ok_map c.place.result (λ found. IfSome found (λ row. AreFirstPlaced all new es hs row)) (λ found. IfSome found (λ row. IsFirstRowFor sought seen row))
    (λ found. if_some_map found (λ row. AreFirstPlaced all new es hs row) (λ row. IsFirstRowFor sought seen row) (λ row k. first_for all new sought seen row step (first_seen all sought seen new es hs row events_are hyps_are k))) c.place.ensures.some

pub returns-clause-none : goal.returns-clause-none
returns-clause-none g c =
    let all = g.B.Bank.trees c.args.bank.now in
    let sought = sought_of c.args.wanted.now in
    let seen = clause_at all c.args.clause.now in
    let new = c.match_bad.new.binds.pairs in
    let es = map event_fact c.deref-2.result.now in
    let hs = map (fact_at all) (map fact_of c.deref.result.now) in
    let events_are : sought.events ≡ es = ap (map event_fact) (sym c.deref-2.ensures.value) in
    let hyps_are : seen.hypotheses ≡ hs = ap (map (fact_at all)) (search rules) in
    let concl_is = ap (λ k. fact_at all (fact_of k.concl)) c.clause-inside.view_is ∙ ap (λ k. fact_at all k.conclusion) c.clause.view_is in
    let step = concluded all sought seen c.in_ok-binds.binds.pairs new _ c.in_ok-binds.ensures.none concl_is (c.in_ok-match_bad.ensures.yes c.if-not-branch.false) in
    if_ok_map c.place.result (λ found. found ≡ None → (row : List ℕ) → ArePlaced all new es hs row → ⊥) (λ found. found ≡ None → (row : List ℕ) → IsRowFor sought seen row → ⊥)
    (λ found never none row k. never none row (placed_seen all record { conclusion = sought.conclusion; events = es } record { hypotheses = hs; diffs = seen.diffs; conclusion = seen.conclusion } new sought.events seen.hypotheses row events_are hyps_are (placed_for all new sought seen row step k)))
    c.place.ensures.none

pub returns-then-not-branch-clause-none : goal.returns-then-not-branch-clause-none
returns-then-not-branch-clause-none g c = λ _.
    let all = g.B.Bank.trees c.args.bank.now in
    let sought = sought_of c.args.wanted.now in
    let seen = clause_at all c.args.clause.now in
    let concl_is = ap (λ k. fact_at all (fact_of k.concl)) c.clause-inside.view_is ∙ ap (λ k. fact_at all k.conclusion) c.clause.view_is in
    no_row_for all c.match_bad.new.binds.pairs sought seen (unconcluded all sought seen c.in_ok-binds.binds.pairs _ c.in_ok-binds.ensures.none concl_is (c.in_ok-match_bad.ensures.no c.if-not-branch.true))

pub place-requires-clause-few : goal.place-requires-clause-few
place-requires-clause-few g c = grind (arith, common_steps)
