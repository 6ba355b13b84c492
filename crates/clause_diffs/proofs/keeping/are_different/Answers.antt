use Rattle.std.proofs.Common.{◌∙◌, ◌+◌, not, ◌&&◌, drop, ap, sym}
use Rattle.clause_diffs.specs.Diffs.{diffs_at}
use Rattle.clause_diffs.specs.Needed.{differ}
use Rattle.clause_diffs.proofs.Walks.{diff_known_at}
use Rattle.clause_diffs.proofs.Kept.{rest_known, differ_on}
use Rattle.clause_diffs.proofs.keeping.are_different.Goals as goal

pub is_among_diffs-requires-clause-diffs : goal.is_among_diffs-requires-clause-diffs
is_among_diffs-requires-clause-diffs g c = rest_known (g.B.Bank.trees c.args.bank.now) c.args.diffs.now (c.each.i + 1) c.requires

pub is_among_diffs-requires-clause-diff : goal.is_among_diffs-requires-clause-diff
is_among_diffs-requires-clause-diff g c = diff_known_at (g.B.Bank.trees c.args.bank.now) c.args.diffs.now c.each.i c.index-diffs-i.result c.index-diffs-i.is c.requires c.each-test.true

pub returns-then-is_among_diffs : goal.returns-then-is_among_diffs
returns-then-is_among_diffs g c =
    let all = g.B.Bank.trees c.args.bank.now in
    sym (c.each.invariant
    ∙ (differ_on all c.args.diffs.now c.each.i c.index-diffs-i.result c.is_among_diffs.result c.each-test.true c.index-diffs-i.is c.is_among_diffs.ensures
    ∙ ap (λ b. not b && differ (diffs_at all (drop (c.each.i + 1) c.args.diffs.now))) c.if-is_among_diffs.true))

pub each-preserved : goal.each-preserved
each-preserved g c =
    let all = g.B.Bank.trees c.args.bank.now in
    c.each.invariant
    ∙ (differ_on all c.args.diffs.now c.each.i c.index-diffs-i.result c.is_among_diffs.result c.each-test.true c.index-diffs-i.is c.is_among_diffs.ensures
    ∙ ap (λ b. not b && differ (diffs_at all (drop (c.each.i + 1) c.args.diffs.now))) c.if-is_among_diffs.false)
