use Rattle.std.proofs.Common.{◌≡◌, ◌∙◌, ℕ, true, false, List, take, sym}
use Rattle.std.proofs.lemmas.Result.{IfOk-weaker}
use Rattle.spec_clauses.specs.Selection.{is_solved}
use Rattle.spec_clauses.proofs.Selection.{select-none}
use Rattle.spec_certificates.specs.Certificate.{numbered_from}
use Rattle.clause_form.specs.Seen.{clause_at}
use Rattle.clause_form.specs.Fit.{clauses_at}
use Rattle.cert_writer.specs.Adding.{AddsPairs, pairs_of_one, pairs_if_solved}
use Rattle.cert_writer.proofs.Adding.{neither_solved, of_solved, if_solved}
use Rattle.cert_writer.proofs.closing.cover_one.Goals as goal

pub returns-then-not-is_solved-clause-rows : goal.returns-then-not-is_solved-clause-rows
returns-then-not-is_solved-clause-rows g c =
    let all = g.B.Bank.trees c.args.bank.now in
    let live = clauses_at all c.args.writer.now.live.now in
    let solved = clause_at all c.args.solving.now.clause.now in
    let no : is_solved solved.hypotheses ≡ false = sym c.is_solved.ensures ∙ c.if-not-is_solved.true in
    λ i first. neither_solved live i solved (take c.args.solving.now.from (numbered_from 1 live)) (take c.args.solving.now.to (numbered_from 1 live)) first c.args.rows.now no

pub returns-clause-rows : goal.returns-clause-rows
returns-clause-rows g c =
    let all = g.B.Bank.trees c.args.bank.now in
    let live = clauses_at all c.args.writer.now.live.now in
    let solved = clause_at all c.args.solving.now.clause.now in
    let from = take c.args.solving.now.from (numbered_from 1 live) in
    let to = take c.args.solving.now.to (numbered_from 1 live) in
    let old = c.args.rows.now in
    let new = c.cover_solved.new.rows in
    let yes : is_solved solved.hypotheses ≡ true = sym c.is_solved.ensures ∙ c.if-not-is_solved.false in
    let none = (select-none solved.hypotheses).1 yes in
    IfOk-weaker c.cover_solved.result (λ _. (i : ℕ) (first : List (List ℕ)) → AddsPairs live (pairs_of_one i solved from) first old → AddsPairs live (pairs_of_one i solved to) first new)
    (λ _. (i : ℕ) (first : List (List ℕ)) → AddsPairs live (pairs_if_solved i solved from) first old → AddsPairs live (pairs_if_solved i solved to) first new)
    (λ _ adds i first start. if_solved live i solved to first new none (adds i first (of_solved live i solved from first old none start))) c.cover_solved.ensures.rows
