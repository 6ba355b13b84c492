use Rattle.std.proofs.lemmas.Bool.{MatchBool-at_true, MatchBool-at_false}
use Rattle.clause_diffs.specs.Diffs.{diffs_at}
use Rattle.clause_diffs.proofs.Walks.{diff_known_at}
use Rattle.fact_placing.specs.Boards.{AreKeptOn}
use Rattle.fact_placing.proofs.Kept.{kept_next, unkept_here, kept_all, numbered_at}
use Rattle.fact_placing.proofs.keeping.are_kept.Goals as goal

pub each-init : goal.each-init
each-init g c = λ kept. kept

pub may_be_kept-requires-clause-diff : goal.may_be_kept-requires-clause-diff
may_be_kept-requires-clause-diff g c = diff_known_at (g.B.Bank.trees c.args.board.now.bank.now) c.args.board.now.ending.diffs.now c.each.diff-index c.diff-item.result c.diff-item.is c.requires.ending.diffs c.each-test.true

pub may_be_kept-requires-clause-numbered : goal.may_be_kept-requires-clause-numbered
may_be_kept-requires-clause-numbered g c = numbered_at (g.B.Bank.trees c.args.board.now.bank.now) c.args.board.now.ending.diffs.now c.each.diff-index c.diff-item.result c.requires.ending.numbered c.each-test.true c.diff-item.is

pub each-preserved : goal.each-preserved
each-preserved g c =
    let all = g.B.Bank.trees c.args.board.now.bank.now in
    let ending = c.args.board.now.ending in
    let pairs = c.args.placing.now.binds.pairs in
    kept_next all pairs (diffs_at all ending.kept_in.now) ending.diffs.now c.each.diff-index c.diff-item.result c.each-test.true c.diff-item.is (AreKeptOn all ending pairs) (MatchBool-at_true _ _ c.if-not-branch.false c.in_ok-may_be_kept.ensures) c.each.invariant

pub returns-then-not-branch : goal.returns-then-not-branch
returns-then-not-branch g c = λ s agrees are.
    let all = g.B.Bank.trees c.args.board.now.bank.now in
    let ending = c.args.board.now.ending in
    unkept_here all c.args.placing.now.binds.pairs (diffs_at all ending.kept_in.now) ending.diffs.now c.each.diff-index c.diff-item.result c.each-test.true c.diff-item.is c.requires.placing.bindings.once (MatchBool-at_false _ _ c.if-not-branch.true c.in_ok-may_be_kept.ensures) s agrees are

pub returns : goal.returns
returns g c =
    let all = g.B.Bank.trees c.args.board.now.bank.now in
    let ending = c.args.board.now.ending in
    let pairs = c.args.placing.now.binds.pairs in
    kept_all all pairs (diffs_at all ending.kept_in.now) ending.diffs.now c.each.diff-index (AreKeptOn all ending pairs) c.each-test.false c.each.invariant
