use Rattle.std.proofs.Common.{◌∙◌, ◌<◌, length, sym, arith}
use Rattle.clause_diffs.specs.Diffs.{diff_at, diffs_at}
use Rattle.clause_diffs.proofs.Walks.{diff_known_at}
use Rattle.cert_writer.proofs.SameLists.{diff_there, same_next, same_diff_told}
use Rattle.cert_writer.proofs.beginning.are_same_diffs.Goals as goal

pub same_diff-requires-clause-left : goal.same_diff-requires-clause-left
same_diff-requires-clause-left g c = diff_known_at (g.B.Bank.trees c.args.bank.now) c.args.lefts.now c.each.i c.index-lefts-i.result c.index-lefts-i.is c.requires.lefts c.each-test.true

pub same_diff-requires-clause-right : goal.same_diff-requires-clause-right
same_diff-requires-clause-right g c = diff_known_at (g.B.Bank.trees c.args.bank.now) c.args.rights.now c.each.i c.index-rights-i.result c.index-rights-i.is c.requires.rights (omega (arith, c.each-test.true, c.if-lefts-rights.false))

pub each-preserved : goal.each-preserved
each-preserved g c =
    let all = g.B.Bank.trees c.args.bank.now in
    let left = diff_at all c.index-lefts-i.result in
    let right = diff_at all c.index-rights-i.result in
    let also : c.each.i < length c.args.rights.now = omega (arith, c.each-test.true, c.if-lefts-rights.false) in
    same_next (diffs_at all c.args.lefts.now) (diffs_at all c.args.rights.now) c.each.i left right
    (diff_there all c.args.lefts.now c.each.i c.index-lefts-i.result c.index-lefts-i.is c.each-test.true)
    (diff_there all c.args.rights.now c.each.i c.index-rights-i.result c.index-rights-i.is also)
    (same_diff_told left right (sym c.same_diff.ensures ∙ c.if-not-same_diff.false)) c.each.invariant
