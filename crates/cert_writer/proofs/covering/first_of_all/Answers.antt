use Rattle.std.proofs.Common.{◌≡◌, ◌+◌, ℕ, List, [], ◌∷◌, Vec, Global, get_or, refl, sym, subst}
use Rattle.std.proofs.lemmas.List.{get_or_default}
use Rattle.std.proofs.lemmas.Option.{slice_get-get_or}
use Rattle.std.proofs.lemmas.Result.{IfOk-weaker}
use Rattle.spec_clauses.specs.Fact.{Bad}
use Rattle.spec_clauses.specs.Subsumption.{RowHolds, IsFirstRow}
use Rattle.clause_form.specs.Seen.{clause_at, IdClause}
use Rattle.spec_verdicts.specs.FirstRows.{IsFirstCover}
use Rattle.spec_verdicts.proofs.Finding.{none_next, first_found, none_covers}
use Rattle.clause_form.specs.Fit.{clauses_at}
use Rattle.cert_writer.proofs.Items.{item_at, items_past, fit_normal, when_some, when_none}
use Rattle.cert_writer.proofs.covering.first_of_all.Goals as goal

abbrev no_clause : IdClause
no_clause = record { hypotheses = []; diffs = []; conclusion = Bad [] }

pub returns-in-Some : goal.returns-in-Some
returns-in-Some g c =
    let all = g.B.Bank.trees c.args.bank.now in
    let cs = c.args.writer.now.live.now in
    let special = clause_at all c.args.clause.now in
    let d = get_or cs c.each.place no_clause in
    let general = clause_at all d in
    let found = first_found (clauses_at all cs) special c.each.place (c.each.place + 1) general c.in-Some.row refl (item_at all cs c.each.place d (get_or_default cs c.each.place no_clause d c.each-test.true) c.each-test.true)
    (when_some ((row : List ℕ) → RowHolds general special row → ⊥) (IsFirstRow general special) c.in_ok-row.field-0 c.in-Some.row c.in-Some.is (c.in_ok-row.ensures d (slice_get-get_or cs c.each.place no_clause c.each-test.true))) c.each.invariant in
    IfOk-weaker c.numbered.result (λ (numbers : Vec ℕ Global). numbers.items ≡ (c.each.place + 1) ∷ c.in-Some.row) (λ (row : Vec ℕ Global). IsFirstCover (clauses_at all cs) special row.items)
    (λ row is. subst (IsFirstCover (clauses_at all cs) special) (sym is) found) c.numbered.ensures

pub each-preserved : goal.each-preserved
each-preserved g c =
    let all = g.B.Bank.trees c.args.bank.now in
    let cs = c.args.writer.now.live.now in
    let special = clause_at all c.args.clause.now in
    let d = get_or cs c.each.place no_clause in
    let general = clause_at all d in
    none_next (clauses_at all cs) special c.each.place general (item_at all cs c.each.place d (get_or_default cs c.each.place no_clause d c.each-test.true) c.each-test.true)
    (when_none ((row : List ℕ) → RowHolds general special row → ⊥) (IsFirstRow general special) c.in_ok-row.field-0 c.in-None.is (c.in_ok-row.ensures d (slice_get-get_or cs c.each.place no_clause c.each-test.true))) c.each.invariant

pub returns : goal.returns
returns g c =
    let all = g.B.Bank.trees c.args.bank.now in
    let cs = c.args.writer.now.live.now in
    absurd (none_covers (clauses_at all cs) (clause_at all c.args.clause.now) (fit_normal all cs c.requires.ready.fit) c.each.place (items_past all cs c.each.place c.each-test.false) c.each.invariant c.requires.covered)
