use Rattle.std.proofs.Common.{◌≡◌, ◌+◌, ◌∙◌, map, ap, sym, rules, arith}
use Rattle.spec_trees.specs.Tree.{size}
use Rattle.spec_clauses.specs.Fact.{total}
use Rattle.term_tree.specs.Bank.{tree_at, capped}
use Rattle.clause_diffs.specs.Diffs.{shown_at}
use Rattle.clause_diffs.proofs.Sizes.{shown_size}
use Rattle.clause_diffs.proofs.size.size_of_diff.Goals as goal

pub returns : goal.returns
returns g c =
    let all = g.B.Bank.trees c.args.bank.now in
    let d = shown_at all c.args.diff.now in
    let lefts : c.deref.result.now ≡ c.args.diff.now.left = search rules in
    let rights : c.deref-2.result.now ≡ c.args.diff.now.right = search rules in
    let left : c.size_of_terms-left.result ≡ capped (total size d.left) = c.size_of_terms-left.ensures ∙ ap (λ ids. capped (total size (map (tree_at all) ids))) lefts in
    let right : c.size_of_terms-right.result ≡ capped (total size d.right) = c.size_of_terms-right.ensures ∙ ap (λ ids. capped (total size (map (tree_at all) ids))) rights in
    c.add_symbols-2.ensures 1 (total size d.left + total size d.right) (omega arith) (c.add_symbols.ensures _ _ left right) ∙ ap capped (sym (shown_size d))
