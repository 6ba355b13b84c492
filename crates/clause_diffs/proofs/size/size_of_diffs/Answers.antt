use Rattle.std.proofs.Common.{◌+◌, ◌∙◌, ap, sym, take}
use Rattle.spec_clauses.specs.Diff.{diff_size}
use Rattle.spec_clauses.specs.Fact.{total}
use Rattle.term_tree.specs.Bank.{capped}
use Rattle.clause_diffs.specs.Diffs.{diff_at}
use Rattle.clause_diffs.proofs.Lists.{total_more, total_all, total-map}
use Rattle.clause_diffs.proofs.Walks.{diff_known_at}
use Rattle.clause_diffs.proofs.size.size_of_diffs.Goals as goal

pub size_of_diff-requires : goal.size_of_diff-requires
size_of_diff-requires g c = diff_known_at (g.B.Bank.trees c.args.bank.now) c.args.diffs.now c.loop-diff.diff-index c.diff-item.result c.diff-item.is c.requires c.loop-diff-test.true

pub loop-diff-preserved : goal.loop-diff-preserved
loop-diff-preserved g c =
    let all = g.B.Bank.trees c.args.bank.now in
    let done = total (λ d. diff_size (diff_at all d)) (take c.loop-diff.diff-index c.args.diffs.now) in
    c.add_symbols-symbols.ensures _ _ c.loop-diff.invariant c.size_of_diff.ensures
    ∙ ap capped (ap (λ d. done + diff_size (diff_at all d)) c.diff-item.is ∙ sym (total_more (λ d. diff_size (diff_at all d)) c.args.diffs.now c.loop-diff.diff-index c.diff-item.result c.loop-diff-test.true))

pub returns : goal.returns
returns g c =
    let all = g.B.Bank.trees c.args.bank.now in
    c.loop-diff.invariant
    ∙ ap capped (total_all (λ d. diff_size (diff_at all d)) c.args.diffs.now c.loop-diff.diff-index c.loop-diff-test.false ∙ sym (total-map diff_size (diff_at all) c.args.diffs.now))
