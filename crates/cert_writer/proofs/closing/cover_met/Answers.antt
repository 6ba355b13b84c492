use Rattle.std.proofs.Common.{◌≡◌, ◌∙◌, ℕ, Some, [], get_or, slice_get, sym, subst, arith}
use Rattle.std.proofs.lemmas.List.{get_or_default}
use Rattle.std.proofs.lemmas.Option.{slice_get-get_or}
use Rattle.std.proofs.lemmas.Result.{IfOk-weaker}
use Rattle.spec_terms.proofs.Replace.{some_same}
use Rattle.spec_clauses.specs.Fact.{Bad}
use Rattle.fact_fingerprint.specs.Seen.{fingerprint_seen}
use Rattle.clause_form.specs.Seen.{clause_at, IdClause}
use Rattle.clause_form.specs.Fit.{clauses_at}
use Rattle.clause_form.proofs.Fit.{fit_in}
use Rattle.fact_fingerprint.proofs.Telling.{print_there, prints_count}
use Rattle.cert_writer.specs.Adding.{AddsPairs, pairs_of_two}
use Rattle.cert_writer.proofs.Items.{item_has}
use Rattle.cert_writer.proofs.Adding.{pair_told_apart}
use Rattle.cert_writer.proofs.closing.cover_met.Goals as goal

abbrev no_clause : IdClause
no_clause = record { hypotheses = []; diffs = []; conclusion = Bad [] }

pub bounds-solving-place : goal.bounds-solving-place
bounds-solving-place g c = omega (arith, prints_count (g.B.Bank.trees c.args.bank.now) c.args.writer.now.live.now c.args.solving.now.unsolved.prints.now c.requires.told.unsolved.prints, c.requires.place)

pub returns-then-not-may_resolve-clause-rows : goal.returns-then-not-may_resolve-clause-rows
returns-then-not-may_resolve-clause-rows g c = λ d there i j.
    (let all = (g.B.Bank.trees c.args.bank.now) in
    let live = c.args.writer.now.live.now in
    let solving = c.args.solving.now in
    let solved = clause_at all solving.clause.now in
    let same : get_or live c.args.place no_clause ≡ d = some_same (sym (slice_get-get_or live c.args.place no_clause c.requires.place) ∙ there) in
    subst (λ (x : IdClause). AddsPairs (clauses_at all live) (pairs_of_two i solved j (clause_at all x)) c.args.rows.now c.args.rows.now) same
    (pair_told_apart (clauses_at all live) i j solved (clause_at all (get_or live c.args.place no_clause)) c.args.rows.now (fingerprint_seen solving.print) _
    c.requires.told.conclusion (print_there all live solving.unsolved.prints.now c.args.place no_clause _ c.requires.told.unsolved.prints c.requires.place) (sym c.may_resolve.ensures ∙ c.if-not-may_resolve.true)))

pub cover_pair-requires-clause-unsolved_fit : goal.cover_pair-requires-clause-unsolved_fit
cover_pair-requires-clause-unsolved_fit g c = fit_in (g.B.Bank.trees c.args.bank.now) c.args.writer.now.live.now c.args.place c.index-writer-place.result c.requires.ready.fit c.requires.place

pub cover_pair-requires-clause-unsolved_live : goal.cover_pair-requires-clause-unsolved_live
cover_pair-requires-clause-unsolved_live g c =
    let live = c.args.writer.now.live.now in
    let d = c.index-writer-place.result in
    item_has (g.B.Bank.trees c.args.bank.now) live c.args.place (get_or live c.args.place d) (get_or_default live c.args.place d (get_or live c.args.place d) c.requires.place) c.requires.place

pub returns-clause-rows : goal.returns-clause-rows
returns-clause-rows g c =
    let all = (g.B.Bank.trees c.args.bank.now) in
    let live = c.args.writer.now.live.now in
    let solved = clause_at all c.args.solving.now.clause.now in
    let old = c.args.rows.now in
    let new = c.cover_pair.new.rows in
    let d = c.index-writer-place.result in
    IfOk-weaker c.cover_pair.result (λ _. (i j : ℕ) → AddsPairs (clauses_at all live) (pairs_of_two i solved j (clause_at all (get_or live c.args.place d))) old new)
    (λ _. (x : IdClause) → slice_get live c.args.place ≡ Some x → (i j : ℕ) → AddsPairs (clauses_at all live) (pairs_of_two i solved j (clause_at all x)) old new)
    (λ _ adds x there i j. subst (λ (y : IdClause). AddsPairs (clauses_at all live) (pairs_of_two i solved j (clause_at all y)) old new) (some_same (sym (slice_get-get_or live c.args.place d c.requires.place) ∙ there)) (adds i j))
    c.cover_pair.ensures.rows
