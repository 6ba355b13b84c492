use Rattle.std.proofs.Common.{◌≡◌, map, ap, sym, ◌∙◌}
use Rattle.spec_trees.specs.Tree.{bind}
use Rattle.spec_clauses.specs.Fact.{terms_of}
use Rattle.term_tree.specs.Bank.{tree_at}
use Rattle.clause_form.specs.Facts.{fact_of}
use Rattle.clause_resolve.proofs.ByParts.{terms_never_meet}
use Rattle.clause_resolve.proofs.clash.clash.Goals as goal

pub returns : goal.returns
returns g c differ =
    let all = g.B.Bank.trees c.args.bank.now in
    let lefts : c.as_slice.result.now ≡ terms_of (fact_of c.args.left.now) = c.as_slice.ensures ∙ c.terms-lefts.ensures in
    let rights : c.as_slice-2.result.now ≡ terms_of (fact_of c.args.right.now) = c.as_slice-2.ensures ∙ c.terms-rights.ensures in
    terms_never_meet all (fact_of c.args.left.now) (fact_of c.args.right.now) (λ s r e.
    c.some_roots_differ.ensures differ s r (ap (λ ids. map (bind s) (map (tree_at all) ids)) lefts ∙ (e ∙ ap (λ ids. map (bind r) (map (tree_at all) ids)) (sym rights))))
