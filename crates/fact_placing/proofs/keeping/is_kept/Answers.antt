use Rattle.std.proofs.Common.{◌≡◌, ap}
use Rattle.term_tree.specs.declared.bank.Id.{Id}
use Rattle.clause_diffs.specs.Diffs.{DiffOf, diffs_at}
use Rattle.fact_placing.proofs.Kept.{among_told, apart_told}
use Rattle.fact_placing.proofs.keeping.is_kept.Goals as goal

pub returns-then-is_among_under : goal.returns-then-is_among_under
returns-then-is_among_under g c =
    let all = g.B.Bank.trees c.args.board.now.bank.now in
    let own : c.diff.inside.first ≡ c.args.diff.now.first = ap (λ (d : DiffOf Id). d.first) c.diff.view_is in
    among_told all c.args.binds.now.pairs (diffs_at all c.args.board.now.ending.kept_in.now) c.diff.inside.first c.args.diff.now own c.requires.numbered c.is_among_under.result c.is_among_under.ensures c.if-is_among_under.true

pub returns : goal.returns
returns g c =
    let all = g.B.Bank.trees c.args.board.now.bank.now in
    let own : c.diff.inside.first ≡ c.args.diff.now.first = ap (λ (d : DiffOf Id). d.first) c.diff.view_is in
    apart_told all c.args.binds.now.pairs (diffs_at all c.args.board.now.ending.kept_in.now) c.diff.inside.first c.args.diff.now own c.requires.numbered c.is_among_under.result c.in_ok-is_equal.is_equal c.is_among_under.ensures c.if-is_among_under.false c.in_ok-is_equal.ensures
