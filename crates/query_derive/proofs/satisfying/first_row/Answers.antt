use Rattle.std.proofs.Common.{◌≡◌, ◌+◌, Some, length, map, refl, arith}
use Rattle.std.proofs.lemmas.List.{length-map}
use Rattle.std.proofs.lemmas.Option.{slice_get_read}
use Rattle.spec_calculus.specs.Points.{numbered}
use Rattle.clause_form.specs.Seen.{clause_at}
use Rattle.query_derive.specs.Sought.{IsFirstRowFor}
use Rattle.query_derive.specs.Wanted.{sought_of}
use Rattle.query_derive.proofs.Searching.{if_some_at}
use Rattle.query_derive.proofs.Deciding.{none_yet, none_next, none_at_end, first_among, numbered-at}
use Rattle.query_derive.proofs.satisfying.first_row.Goals as goal

pub each-init : goal.each-init
each-init g c = none_yet (map sought_of c.args.all.now) (clause_at (g.B.Bank.trees c.args.bank.now) c.args.clause.now)

pub returns-in-Some-clause-some : goal.returns-in-Some-clause-some
returns-in-Some-clause-some g c =
    let seen = clause_at (g.B.Bank.trees c.args.bank.now) c.args.clause.now in
    let one = sought_of c.index-all-i.result in
    let there : numbered (map sought_of c.args.all.now) (c.each.i + 1) ≡ Some one = numbered-at sought_of c.args.all.now c.each.i c.index-all-i.result (slice_get_read c.args.all.now (length c.args.all.now) c.each.i c.index-all-i.result refl c.each-test.true c.index-all-i.is) in
    first_among (map sought_of c.args.all.now) seen c.each.i one c.in-Some.positions c.each.invariant there (if_some_at (λ row. IsFirstRowFor one seen row) c.in_ok-positions.field-0 c.in-Some.positions c.in-Some.is c.in_ok-positions.ensures.some)

pub each-preserved : goal.each-preserved
each-preserved g c =
    let seen = clause_at (g.B.Bank.trees c.args.bank.now) c.args.clause.now in
    let one = sought_of c.index-all-i.result in
    let there : numbered (map sought_of c.args.all.now) (c.each.i + 1) ≡ Some one = numbered-at sought_of c.args.all.now c.each.i c.index-all-i.result (slice_get_read c.args.all.now (length c.args.all.now) c.each.i c.index-all-i.result refl c.each-test.true c.index-all-i.is) in
    none_next (map sought_of c.args.all.now) seen c.each.i one c.each.invariant there (c.in_ok-positions.ensures.none c.in-None.is)

pub returns-clause-none : goal.returns-clause-none
returns-clause-none g c = λ _.
    none_at_end (map sought_of c.args.all.now) (clause_at (g.B.Bank.trees c.args.bank.now) c.args.clause.now) c.each.i (omega (arith, c.each-test.false, length-map c.args.all.now sought_of)) c.each.invariant
