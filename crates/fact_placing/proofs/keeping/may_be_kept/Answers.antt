use Rattle.std.proofs.Common.{◌∙◌, sym}
use Rattle.clause_diffs.specs.Diffs.{diff_at, diffs_at}
use Rattle.fact_placing.proofs.Kept.{may_told, unbound_told}
use Rattle.fact_placing.proofs.keeping.may_be_kept.Goals as goal

pub returns-then-not-branch : goal.returns-then-not-branch
returns-then-not-branch g c =
    let all = g.B.Bank.trees c.args.board.now.bank.now in
    unbound_told all c.args.binds.now.pairs (diffs_at all c.args.board.now.ending.kept_in.now) (diff_at all c.args.diff.now) c.in_ok-are_bound.field-0 c.in_ok-are_bound.ensures c.if-not-branch.true

pub returns : goal.returns
returns g c =
    let all = g.B.Bank.trees c.args.board.now.bank.now in
    may_told all c.args.binds.now.pairs (diffs_at all c.args.board.now.ending.kept_in.now) (diff_at all c.args.diff.now) c.is_kept.result (sym c.in_ok-are_bound.ensures ∙ c.if-not-branch.false) c.is_kept.ensures
