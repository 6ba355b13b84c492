use Rattle.std.proofs.Common.{◌≡◌, ◌∙◌, ◌↔◌, ◌<◌, Some, length, get_or, map, drop, refl, ap, rules}
use Rattle.std.specs.Prelude.{IsTrue, slice_get, option_map}
use Rattle.std.proofs.lemmas.Option.{slice_get-map, slice_get_read}
use Rattle.spec_certificates.specs.Certificate.{CoverRowHolds}
use Rattle.clause_form.specs.Seen.{clause_at}
use Rattle.query_derive.proofs.Searching.{if_ok_map}
use Rattle.clause_form.specs.Fit.{clauses_at}
use Rattle.cert_stages.specs.Stages.{NextShows}
use Rattle.cert_stages.proofs.Nexts.{next_at}
use Rattle.cert_stages.proofs.covering.next_covers.Goals as goal

pub returns-in-Some-clause-covers : goal.returns-in-Some-clause-covers
returns-in-Some-clause-covers g c =
    let all = g.B.Bank.trees c.args.bank.now in
    let S = CoverRowHolds (clauses_at all c.args.checker.now.clauses.now) in
    let rows = c.args.checker.now.rows.now in
    let seen = clause_at all c.args.clause.now in
    let row = c.deref-in-Some.result.now in
    let are : rows ≡ map (λ r. r.items) c.deref.result.now = search rules in
    let within : c.args.next < length c.deref.result.now = search rules in
    let same : c.in-Some.row.now ≡ get_or c.deref.result.now c.args.next c.in-Some.row.now = search rules in
    let there : slice_get c.deref.result.now c.args.next ≡ Some c.in-Some.row.now = slice_get_read c.deref.result.now (length c.deref.result.now) c.args.next c.in-Some.row.now refl within same in
    let is : c.in-Some.row.now.items ≡ row = search rules in
    let at : slice_get rows c.args.next ≡ Some row = ap (λ l. slice_get l c.args.next) are ∙ (slice_get-map (λ r. r.items) c.deref.result.now c.args.next ∙ (ap (option_map (λ r. r.items)) there ∙ ap Some is)) in
    let next = next_at S rows c.args.next row seen at in
    if_ok_map c.covers.result (λ yes. IsTrue yes ↔ S row seen) (λ yes. IsTrue yes ↔ NextShows S (drop c.args.next rows) seen)
    (λ yes said. ((λ e. next.0 (said.0 e)), (λ x. said.1 (next.1 x)))) c.covers.ensures
