use Rattle.std.proofs.Common.{◌≡◌, ◌∙◌, ◌↔◌, ◌<◌, Some, length, get_or, map, drop, refl, ap, rules}
use Rattle.std.specs.Prelude.{IsTrue, slice_get, option_map}
use Rattle.std.proofs.lemmas.Option.{slice_get-map, slice_get_read}
use Rattle.spec_certificates.specs.Certificate.{GoalHolds}
use Rattle.pi_tree.specs.Protocols.{protocol_of}
use Rattle.clause_form.specs.Seen.{clause_at}
use Rattle.query_derive.specs.GoalRows.{OfQuery}
use Rattle.query_derive.proofs.Searching.{if_ok_map}
use Rattle.cert_stages.specs.Stages.{NextShows}
use Rattle.cert_stages.proofs.Nexts.{next_at}
use Rattle.cert_stages.proofs.satisfying.next_satisfies.Goals as goal

pub returns-in-Some-clause-satisfies : goal.returns-in-Some-clause-satisfies
returns-in-Some-clause-satisfies g c =
    let P = protocol_of c.args.checker.now.protocol.now in
    let number = c.args.checker.now.query in
    let rows = c.args.checker.now.goals.now in
    let seen = clause_at (g.B.Bank.trees c.args.bank.now) c.args.clause.now in
    let row = c.deref-in-Some.result.now in
    let are : rows ≡ map (λ r. r.items) c.deref.result.now = search rules in
    let within : c.args.next < length c.deref.result.now = search rules in
    let same : c.in-Some.row.now ≡ get_or c.deref.result.now c.args.next c.in-Some.row.now = search rules in
    let there : slice_get c.deref.result.now c.args.next ≡ Some c.in-Some.row.now = slice_get_read c.deref.result.now (length c.deref.result.now) c.args.next c.in-Some.row.now refl within same in
    let is : c.in-Some.row.now.items ≡ row = search rules in
    let at : slice_get rows c.args.next ≡ Some row = ap (λ l. slice_get l c.args.next) are ∙ (slice_get-map (λ r. r.items) c.deref.result.now c.args.next ∙ (ap (option_map (λ r. r.items)) there ∙ ap Some is)) in
    if_ok_map c.is_satisfied.result (λ yes. OfQuery P number (λ q. IsTrue yes ↔ GoalHolds P q row seen)) (λ yes. OfQuery P number (λ q. IsTrue yes ↔ NextShows (GoalHolds P q) (drop c.args.next rows) seen))
    (λ yes told q asked. let next = next_at (GoalHolds P q) rows c.args.next row seen at in let said = told q asked in (λ e. next.0 (said.0 e), λ x. said.1 (next.1 x))) c.is_satisfied.ensures
