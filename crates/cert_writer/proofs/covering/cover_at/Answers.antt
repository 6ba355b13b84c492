use Rattle.std.proofs.Common.{◌≡◌, ◌∙◌, ℕ, Option, List, [], Some, false, get_or, slice_get, sym, subst, arith}
use Rattle.std.specs.Prelude.{MatchOption}
use Rattle.std.proofs.lemmas.Option.{slice_get-get_or}
use Rattle.std.proofs.lemmas.Result.{IfOk-weaker}
use Rattle.spec_terms.proofs.Replace.{some_same}
use Rattle.spec_clauses.specs.Fact.{Bad}
use Rattle.spec_clauses.specs.Subsumption.{RowHolds, IsFirstRow}
use Rattle.spec_fingerprints.specs.Fingerprints.{may_meet}
use Rattle.clause_form.specs.Seen.{clause_at, IdClause}
use Rattle.clause_form.proofs.Fit.{fit_in}
use Rattle.cert_writer.specs.Ready.{conclusion_print}
use Rattle.cert_writer.proofs.Prints.{prints_count, print_there, no_row}
use Rattle.cert_writer.proofs.covering.cover_at.Goals as goal

abbrev no_clause : IdClause
no_clause = record { hypotheses = []; diffs = []; conclusion = Bad [] }

pub bounds-writer-place : goal.bounds-writer-place
bounds-writer-place g c = omega (arith, prints_count (g.B.Bank.trees c.args.bank.now) c.args.writer.now.live.now c.args.writer.now.prints.now c.requires.ready.prints, c.requires.place)

pub cover_row-requires-clause-general : goal.cover_row-requires-clause-general
cover_row-requires-clause-general g c = (fit_in (g.B.Bank.trees c.args.bank.now) c.args.writer.now.live.now c.args.place c.index-writer-place.result c.requires.ready.fit c.requires.place).known

pub cover_row-requires-clause-normal : goal.cover_row-requires-clause-normal
cover_row-requires-clause-normal g c = (fit_in (g.B.Bank.trees c.args.bank.now) c.args.writer.now.live.now c.args.place c.index-writer-place.result c.requires.ready.fit c.requires.place).normal

pub returns-then-not-may_meet : goal.returns-then-not-may_meet
returns-then-not-may_meet g c = λ d there.
    (let all = g.B.Bank.trees c.args.bank.now in
    let live = c.args.writer.now.live.now in
    let special = clause_at all c.args.clause.now in
    let same : get_or live c.args.place no_clause ≡ d = some_same (sym (slice_get-get_or live c.args.place no_clause c.requires.place) ∙ there) in
    let print = print_there all live c.args.writer.now.prints.now c.args.place no_clause _ c.requires.ready.prints c.requires.place in
    let apart : may_meet (conclusion_print (clause_at all (get_or live c.args.place no_clause))) (conclusion_print special) ≡ false =
    sym (λ i. may_meet (print i) (c.requires.print i)) ∙ (sym c.may_meet.ensures.exact ∙ c.if-not-may_meet.true) in
    subst (λ (x : IdClause). (row : List ℕ) → RowHolds (clause_at all x) special row → ⊥) same (no_row (clause_at all (get_or live c.args.place no_clause)) special apart))

pub returns : goal.returns
returns g c =
    let all = g.B.Bank.trees c.args.bank.now in
    let live = c.args.writer.now.live.now in
    let special = clause_at all c.args.clause.now in
    let d = c.index-writer-place.result in
    IfOk-weaker c.cover_row.result
    (λ (found : Option (List ℕ)). MatchOption found ((row : List ℕ) → RowHolds (clause_at all (get_or live c.args.place d)) special row → ⊥) (IsFirstRow (clause_at all (get_or live c.args.place d)) special))
    (λ (found : Option (List ℕ)). (x : IdClause) → slice_get live c.args.place ≡ Some x → MatchOption found ((row : List ℕ) → RowHolds (clause_at all x) special row → ⊥) (IsFirstRow (clause_at all x) special))
    (λ found first x there. subst (λ (y : IdClause). MatchOption found ((row : List ℕ) → RowHolds (clause_at all y) special row → ⊥) (IsFirstRow (clause_at all y) special)) (some_same (sym (slice_get-get_or live c.args.place d c.requires.place) ∙ there)) first)
    c.cover_row.ensures.row
