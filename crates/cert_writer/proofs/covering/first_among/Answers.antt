use Rattle.std.proofs.Common.{ℕ, List, get_or, refl, arith}
use Rattle.spec_clauses.specs.Subsumption.{RowHolds, IsFirstRow}
use Rattle.clause_form.specs.Seen.{clause_at}
use Rattle.log_entries.proofs.Numbers.{place_among}
use Rattle.cert_writer.proofs.Items.{when_some, when_none}
use Rattle.cert_writer.proofs.Classed.{none_of_more, first_there, none_there}
use Rattle.cert_writer.proofs.covering.first_among.Goals as goal

pub each-init : goal.each-init
each-init g c = record { none = λ j less. absurd (omega (arith, less)) }

pub cover_at-requires-clause-place : goal.cover_at-requires-clause-place
cover_at-requires-clause-place g c = c.requires.within (get_or c.args.places.now c.each.place-index 0) (place_among c.args.places.now c.each.place-index 0 c.each-test.true)

pub returns-in-Some : goal.returns-in-Some
returns-in-Some g c =
    let all = g.B.Bank.trees c.args.bank.now in
    let live = c.args.writer.now.live.now in
    let special = clause_at all c.args.clause.now in
    first_there all live special c.args.places.now c.each.place-index (record { place = get_or c.args.places.now c.each.place-index 0; row = c.in-Some.row }) c.requires.ascending c.each-test.true refl (place_among c.args.places.now c.each.place-index 0 c.each-test.true) c.each.invariant
    (λ general there. when_some ((row : List ℕ) → RowHolds (clause_at all general) special row → ⊥) (IsFirstRow (clause_at all general) special) c.in_ok-row.field-0 c.in-Some.row c.in-Some.is (c.in_ok-row.ensures general there))

pub each-preserved : goal.each-preserved
each-preserved g c =
    let all = g.B.Bank.trees c.args.bank.now in
    let special = clause_at all c.args.clause.now in
    none_of_more all c.args.writer.now.live.now special c.args.places.now c.each.place-index
    (λ general there. when_none ((row : List ℕ) → RowHolds (clause_at all general) special row → ⊥) (IsFirstRow (clause_at all general) special) c.in_ok-row.field-0 c.in-None.is (c.in_ok-row.ensures general there)) c.each.invariant

pub returns : goal.returns
returns g c = none_there (g.B.Bank.trees c.args.bank.now) c.args.writer.now.live.now (clause_at (g.B.Bank.trees c.args.bank.now) c.args.clause.now) c.args.places.now c.each.place-index c.each-test.false c.each.invariant
