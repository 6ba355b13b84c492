use Rattle.std.proofs.Common.{Bool, ◌∙◌, ◌++◌, ◌∷◌, [], cond, filter, ap}
use Rattle.std.proofs.lemmas.List.{take_all}
use Rattle.term_tree.specs.declared.bank.Id.{Id}
use Rattle.clause_diffs.specs.Diffs.{DiffOf, diff_at}
use Rattle.clause_diffs.specs.Needed.{is_needed_among}
use Rattle.clause_diffs.proofs.Naming.{filtered}
use Rattle.clause_diffs.proofs.Shown.{kept_more}
use Rattle.clause_diffs.proofs.Walks.{diff_known_at}
use Rattle.clause_diffs.proofs.needless.needed.Goals as goal

pub add_needed-requires : goal.add_needed-requires
add_needed-requires g c = diff_known_at (g.B.Bank.trees c.args.bank.now) c.args.diffs.now c.loop-diff.diff-index c.diff-item.result c.diff-item.is c.requires c.loop-diff-test.true

pub loop-diff-preserved : goal.loop-diff-preserved
loop-diff-preserved g c =
    let test : DiffOf Id → Bool = λ d. is_needed_among c.args.anchors.now (diff_at (g.B.Bank.trees c.args.bank.now) d) in
    let kept = c.loop-diff.kept in
    kept_more test c.args.diffs.now c.loop-diff.diff-index c.diff-item.result kept c.add_needed.new.kept c.loop-diff-test.true c.loop-diff.invariant (c.in_ok-add_needed.ensures ∙ ap (λ d. cond (test d) (kept ++ d ∷ []) kept) c.diff-item.is)

pub returns : goal.returns
returns g c =
    let all = g.B.Bank.trees c.args.bank.now in
    filtered all (is_needed_among c.args.anchors.now) c.args.diffs.now c.loop-diff.kept c.requires
    (c.loop-diff.invariant ∙ ap (filter (λ d. is_needed_among c.args.anchors.now (diff_at all d))) (take_all c.loop-diff.diff-index c.args.diffs.now c.loop-diff-test.false))
