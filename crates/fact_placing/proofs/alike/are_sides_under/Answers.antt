use Rattle.std.proofs.Common.{◌∙◌, sym, arith}
use Rattle.spec_clauses.specs.Diff.{same_sides}
use Rattle.clause_diffs.specs.Diffs.{sides_at}
use Rattle.clause_diffs.proofs.Walks.{known_at}
use Rattle.fact_placing.specs.Matched.{slot_matched, sides_matched}
use Rattle.clause_diffs.proofs.Alike.{as_shown, alike_fail, alike_on, alike_end, alike_lengths}
use Rattle.fact_placing.proofs.alike.are_sides_under.Goals as goal

pub returns-then-lefts-rights : goal.returns-then-lefts-rights
returns-then-lefts-rights g c =
    alike_lengths (g.B.Bank.trees c.args.from.now.bank.now) (slot_matched (g.B.Bank.trees c.args.from.now.bank.now) c.args.from.now.binds.now.pairs c.args.from.now.first) (as_shown c.args.other) c.args.lefts.now c.args.rights.now
    (λ e. absurd (omega (arith, e, c.if-lefts-rights.true)))

pub is_side_under-requires-clause-left : goal.is_side_under-requires-clause-left
is_side_under-requires-clause-left g c = known_at (g.B.Bank.trees c.args.from.now.bank.now) c.args.lefts.now c.each.i record { index = 0 } c.requires.lefts c.each-test.true

pub is_side_under-requires-clause-right : goal.is_side_under-requires-clause-right
is_side_under-requires-clause-right g c = known_at (g.B.Bank.trees c.args.from.now.bank.now) c.args.rights.now c.each.i record { index = 0 } c.requires.rights (omega (arith, c.each-test.true, c.if-lefts-rights.false))

pub returns-then-not-is_side_under : goal.returns-then-not-is_side_under
returns-then-not-is_side_under g c =
    let all = g.B.Bank.trees c.args.from.now.bank.now in
    let p = slot_matched all c.args.from.now.binds.now.pairs c.args.from.now.first in
    let whole = same_sides (sides_matched all c.args.from.now.binds.now.pairs c.args.from.now.first c.args.lefts.now) (sides_at all c.args.other c.args.rights.now) in
    alike_fail all p (as_shown c.args.other) c.args.lefts.now c.args.rights.now c.each.i record { index = 0 } whole c.each.invariant c.each-test.true (omega (arith, c.each-test.true, c.if-lefts-rights.false)) (sym c.is_side_under.ensures ∙ c.if-not-is_side_under.true)

pub each-preserved : goal.each-preserved
each-preserved g c =
    let all = g.B.Bank.trees c.args.from.now.bank.now in
    let p = slot_matched all c.args.from.now.binds.now.pairs c.args.from.now.first in
    let whole = same_sides (sides_matched all c.args.from.now.binds.now.pairs c.args.from.now.first c.args.lefts.now) (sides_at all c.args.other c.args.rights.now) in
    alike_on all p (as_shown c.args.other) c.args.lefts.now c.args.rights.now c.each.i record { index = 0 } whole c.each.invariant c.each-test.true (omega (arith, c.each-test.true, c.if-lefts-rights.false)) (sym c.is_side_under.ensures ∙ c.if-not-is_side_under.false)

pub returns : goal.returns
returns g c =
    let all = g.B.Bank.trees c.args.from.now.bank.now in
    let p = slot_matched all c.args.from.now.binds.now.pairs c.args.from.now.first in
    let whole = same_sides (sides_matched all c.args.from.now.binds.now.pairs c.args.from.now.first c.args.lefts.now) (sides_at all c.args.other c.args.rights.now) in
    alike_end all p (as_shown c.args.other) c.args.lefts.now c.args.rights.now c.each.i whole c.each.invariant c.each-test.false (omega (arith, c.each-test.false, c.if-lefts-rights.false))
