use Rattle.std.proofs.Common.{◌≡◌, ◌↔◌, ◌+◌, ◌<◌, ◌≤◌, ◌∷◌, List, ℕ, length, get_or, sym, subst, rules, arith}
use Rattle.std.specs.Prelude.{IsTrue}
use Rattle.spec_clauses.specs.Subsumption.{RowHolds}
use Rattle.spec_certificates.specs.Certificate.{CoverRowHolds}
use Rattle.clause_form.specs.Seen.{clause_at}
use Rattle.query_derive.proofs.Searching.{if_ok_map}
use Rattle.clause_form.specs.Fit.{clauses_at}
use Rattle.cert_stages.proofs.CoverRows.{none_past, by_number}
use Rattle.clause_form.proofs.Fit.{clause_fit_at}
use Rattle.cert_stages.proofs.Nexts.{never_told}
use Rattle.cert_stages.proofs.covering.covers_at.Goals as goal

pub row_holds-requires-clause-general : goal.row_holds-requires-clause-general
row_holds-requires-clause-general g c =
    let cs = c.args.checker.now.clauses.now in
    let within : c.in-Some.index < length cs = search rules in
    let same : c.in-Some-get.general.now ≡ get_or cs c.in-Some.index c.in-Some-get.general.now = search rules in
    (clause_fit_at (g.B.Bank.trees c.args.bank.now) cs c.in-Some.index c.in-Some-get.general.now same c.requires.fit within).known

pub row_holds-requires-clause-normal : goal.row_holds-requires-clause-normal
row_holds-requires-clause-normal g c =
    let cs = c.args.checker.now.clauses.now in
    let within : c.in-Some.index < length cs = search rules in
    let same : c.in-Some-get.general.now ≡ get_or cs c.in-Some.index c.in-Some-get.general.now = search rules in
    (clause_fit_at (g.B.Bank.trees c.args.bank.now) cs c.in-Some.index c.in-Some-get.general.now same c.requires.fit within).normal

pub returns-in-None-get : goal.returns-in-None-get
returns-in-None-get g c =
    let all = g.B.Bank.trees c.args.bank.now in
    let cs = c.args.checker.now.clauses.now in
    let past : length cs ≤ c.in-Some.index = search rules in
    let next : c.args.number ≡ c.in-Some.index + 1 = omega (arith, c.in-Some.ensures) in
    never_told (CoverRowHolds (clauses_at all cs) (c.args.number ∷ c.args.positions.now) (clause_at all c.args.clause.now)) (none_past all cs c.args.positions.now (clause_at all c.args.clause.now) c.args.number c.in-Some.index next past)

pub returns-in_ok-items-in-Some-get : goal.returns-in_ok-items-in-Some-get
returns-in_ok-items-in-Some-get g c =
    let all = g.B.Bank.trees c.args.bank.now in
    let cs = c.args.checker.now.clauses.now in
    let seen = clause_at all c.args.clause.now in
    let general = c.in-Some-get.general.now in
    let within : c.in-Some.index < length cs = search rules in
    let same : general ≡ get_or cs c.in-Some.index general = search rules in
    let next : c.args.number ≡ c.in-Some.index + 1 = omega (arith, c.in-Some.ensures) in
    let copied : c.in_ok-items-in-Some-get.items.items ≡ c.args.positions.now = search rules in
    let by = by_number all cs c.args.positions.now seen c.args.number c.in-Some.index general next same within in
    if_ok_map c.row_holds.result (λ yes. IsTrue yes ↔ RowHolds (clause_at all general) seen c.in_ok-items-in-Some-get.items.items) (λ yes. IsTrue yes ↔ CoverRowHolds (clauses_at all cs) (c.args.number ∷ c.args.positions.now) seen)
    (λ yes said. (
      (λ t. by.0 (subst (λ (l : List ℕ). RowHolds (clause_at all general) seen l) copied (said.0 t))),
      (λ h. said.1 (subst (λ (l : List ℕ). RowHolds (clause_at all general) seen l) (sym copied) (by.1 h))),
    )) c.row_holds.ensures
