use Rattle.std.proofs.Common.{◌≡◌, ◌∙◌, ◌↔◌, false, Some, None, ap, sym}
use Rattle.std.specs.Prelude.{IsTrue, option_map}
use Rattle.std.proofs.lemmas.Bool.{false≢true}
use Rattle.spec_calculus.specs.Points.{numbered}
use Rattle.spec_certificates.specs.Certificate.{GoalHolds}
use Rattle.pi_tree.specs.Protocols.{protocol_of}
use Rattle.pi_tree.specs.Queries.{query_of}
use Rattle.clause_form.specs.Seen.{clause_at}
use Rattle.query_derive.specs.Sought.{all_sought, IsRowFor}
use Rattle.query_derive.specs.Wanted.{sought_of}
use Rattle.query_derive.specs.GoalRows.{OfQuery, row_of}
use Rattle.query_derive.proofs.Searching.{if_ok_map}
use Rattle.query_derive.proofs.Deciding.{small_query, goal_holds, of_query, holds_there, holds_nowhere}
use Rattle.query_derive.proofs.satisfying.query_row_holds.Goals as goal

pub wanted_at-requires : goal.wanted_at-requires
wanted_at-requires g c = small_query (protocol_of c.args.protocol.now) c.args.query (query_of c.query.result.now) c.requires.limits c.query.ensures

pub returns-in-Some : goal.returns-in-Some
returns-in-Some g c =
    let P = protocol_of c.args.protocol.now in
    let q = query_of c.query.result.now in
    let seen = clause_at (g.B.Bank.trees c.args.bank.now) c.args.clause.now in
    let row = row_of c.args.row.now in
    let one = sought_of c.in-Some.wanted in
    let there : numbered (all_sought P q) c.args.row.now.alternative ≡ Some one = sym c.in_ok-wanted_at.ensures ∙ ap (option_map sought_of) c.in-Some.is in
    if_ok_map c.row_stands.result (λ yes. IsTrue yes ↔ IsRowFor one seen c.args.row.now.positions) (λ yes. OfQuery P c.args.query (λ p. IsTrue yes ↔ GoalHolds P p row seen))
    (λ yes told. of_query P c.args.query q (λ p. IsTrue yes ↔ GoalHolds P p row seen) c.query.ensures (
      λ e. (goal_holds P q seen row).1 ((holds_there (all_sought P q) seen c.args.row.now.alternative one c.args.row.now.positions there).0 (told.0 e)),
      λ h. told.1 ((holds_there (all_sought P q) seen c.args.row.now.alternative one c.args.row.now.positions there).1 ((goal_holds P q seen row).0 h)),
    )) c.row_stands.ensures

pub returns-in-None : goal.returns-in-None
returns-in-None g c =
    let P = protocol_of c.args.protocol.now in
    let q = query_of c.query.result.now in
    let seen = clause_at (g.B.Bank.trees c.args.bank.now) c.args.clause.now in
    let row = row_of c.args.row.now in
    let none : numbered (all_sought P q) c.args.row.now.alternative ≡ None = sym c.in_ok-wanted_at.ensures ∙ ap (option_map sought_of) c.in-None.is in
    of_query P c.args.query q (λ p. IsTrue false ↔ GoalHolds P p row seen) c.query.ensures (
      λ e. absurd (false≢true e),
      λ h. absurd (holds_nowhere (all_sought P q) seen c.args.row.now.alternative c.args.row.now.positions none ((goal_holds P q seen row).0 h)),
    )
