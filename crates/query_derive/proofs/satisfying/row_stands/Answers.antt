use Rattle.std.proofs.Common.{◌≡◌, ◌∙◌, ℕ, List, map, ap, sym, subst, rules}
use Rattle.std.proofs.lemmas.Bool.{false≢true}
use Rattle.clause_form.specs.Facts.{fact_of}
use Rattle.clause_form.specs.Seen.{fact_at, clause_at}
use Rattle.query_derive.specs.Sought.{IsRowFor}
use Rattle.query_derive.specs.Narrowing.{ArePlaced}
use Rattle.query_derive.specs.Wanted.{event_fact, sought_of}
use Rattle.query_derive.proofs.Deciding.{concluded, unconcluded, placed_seen, row_for, placed_for, no_row_for, told_both}
use Rattle.query_derive.proofs.satisfying.row_stands.Goals as goal

pub returns : goal.returns
returns g c =
    let all = g.B.Bank.trees c.args.bank.now in
    let sought = sought_of c.args.wanted.now in
    let seen = clause_at all c.args.clause.now in
    let new = c.match_bad.new.binds.pairs in
    let es = map event_fact c.deref-2.result.now in
    let hs = map (fact_at all) (map fact_of c.deref.result.now) in
    let row = c.args.positions.now in
    let events_are : es ≡ sought.events = ap (map event_fact) c.deref-2.ensures.value in
    let hyps_are : hs ≡ seen.hypotheses = ap (map (fact_at all)) (search rules) in
    let row_is : c.deref-3.result.now ≡ row = search rules in
    let concl_is = ap (λ k. fact_at all (fact_of k.concl)) c.clause-inside.view_is ∙ ap (λ k. fact_at all k.conclusion) c.clause.view_is in
    let step = concluded all sought seen c.in_ok-binds.binds.pairs new _ c.in_ok-binds.ensures.none concl_is (c.in_ok-match_bad.ensures.yes c.if-not-branch.false) in
    told_both c.stand_at.result (ArePlaced all new es hs c.deref-3.result.now) (IsRowFor sought seen row)
    (λ k. row_for all new sought seen row step (subst (λ (r : List ℕ). ArePlaced all new sought.events seen.hypotheses r) row_is (placed_seen all sought seen new es hs c.deref-3.result.now events_are hyps_are k)))
    (λ h. placed_seen all record { conclusion = sought.conclusion; events = es } record { hypotheses = hs; diffs = seen.diffs; conclusion = seen.conclusion } new sought.events seen.hypotheses c.deref-3.result.now (sym events_are) (sym hyps_are)
    (subst (λ (r : List ℕ). ArePlaced all new sought.events seen.hypotheses r) (sym row_is) (placed_for all new sought seen row step h)))
    c.stand_at.ensures.yes c.stand_at.ensures.no

pub returns-then-not-branch : goal.returns-then-not-branch
returns-then-not-branch g c =
    let all = g.B.Bank.trees c.args.bank.now in
    let sought = sought_of c.args.wanted.now in
    let seen = clause_at all c.args.clause.now in
    let concl_is = ap (λ k. fact_at all (fact_of k.concl)) c.clause-inside.view_is ∙ ap (λ k. fact_at all k.conclusion) c.clause.view_is in
    let never = no_row_for all c.match_bad.new.binds.pairs sought seen (unconcluded all sought seen c.in_ok-binds.binds.pairs _ c.in_ok-binds.ensures.none concl_is (c.in_ok-match_bad.ensures.no c.if-not-branch.true)) in
    (λ e. absurd (false≢true e), λ h. absurd (never c.args.positions.now h))
