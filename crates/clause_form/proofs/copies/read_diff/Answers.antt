use Rattle.std.proofs.Common.{◌≡◌, ◌∙◌, map, ap, rules}
use Rattle.term_tree.specs.Bank.{tree_at}
use Rattle.clause_form.proofs.Copying.{diff_read}
use Rattle.clause_form.proofs.copies.read_diff.Goals as goal

pub returns : goal.returns
returns g c =
    let all = g.B.Bank.trees c.args.bank.now in
    let lefts : c.deref.result.now ≡ c.args.diff.now.left = search rules in
    let rights : c.deref-2.result.now ≡ c.args.diff.now.right = search rules in
    diff_read all c.args.diff.now _ c.in_ok-left.left c.in_ok-right.right (c.in_ok-left.ensures ∙ ap (map (tree_at all)) lefts) (c.in_ok-right.ensures ∙ ap (map (tree_at all)) rights) (search rules)
