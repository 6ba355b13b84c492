use Rattle.std.proofs.Common.{List, drop}
use Rattle.spec_calculus.specs.Syntax.{Ruled}
use Rattle.spec_translation.specs.Visit.{Visit}
use Rattle.term_tree.proofs.BankLaws.{Grows_refl}
use Rattle.visit_choices.specs.declared.ways.Passed.{Passed}
use Rattle.unified_visits.specs.Places.{protocol_at}
use Rattle.unified_visits.specs.Visits.{visit_at}
use Rattle.visit_choices.specs.Walks.{instructions_of, choices_of, IsAlong, PassesFrom}
use Rattle.unified_visits.proofs.Named.{if_ok}
use Rattle.visit_choices.proofs.Walking.{along_first}
use Rattle.visit_choices.proofs.choices.walk_to.Goals as goal

pub follow-passed-requires : goal.follow-passed-requires
follow-passed-requires g c =
    let old = g.B.Bank.trees c.args.bank.now in
    let choosing = c.args.choosing.now in
    let row = c.in_ok-row.ensures in
    record { stands = (visit_at old choosing.visit.now, drop c.args.number (choices_of choosing), along_first old choosing c.in_ok-row.row c.args.number c.requires.known c.requires.within row.ids row.next row.pairs (row.ready old)); like = c.requires.like }

pub returns-clause-passes : goal.returns-clause-passes
returns-clause-passes g c =
    let old = g.B.Bank.trees c.args.bank.now in
    let new = g.B.Bank.trees c.follow-passed.new.bank in
    let choosing = c.args.choosing.now in
    let P = protocol_at choosing.place.now in
    let w = choosing.visit.now in
    let x = c.args.visit.now in
    let rs = drop c.args.number (choices_of choosing) in
    let row = c.in_ok-row.ensures in
    if_ok c.follow-passed.result
    (λ (passed : Passed). (v : Visit) → (rs : List Ruled) → IsAlong P w v (instructions_of choosing) rs old (record { row = c.in_ok-row.row; left = choosing.count; number = c.args.number }) → PassesFrom choosing x v rs new passed)
    (λ (passed : Passed). PassesFrom choosing x (visit_at old w) rs new passed)
    (λ passed told. told (visit_at old w) rs (along_first old choosing c.in_ok-row.row c.args.number c.requires.known c.requires.within row.ids row.next row.pairs (row.ready old))) c.follow-passed.ensures.passes

pub returns-clause-grows : goal.returns-clause-grows
returns-clause-grows g c = c.follow-passed.ensures.grows

pub returns-in_err-row-clause-grows : goal.returns-in_err-row-clause-grows
returns-in_err-row-clause-grows g c = Grows_refl (g.B.Bank.trees c.args.bank.now)
