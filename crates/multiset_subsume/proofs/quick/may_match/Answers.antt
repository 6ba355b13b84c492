use Rattle.std.proofs.Common.{◌≡◌, map, ap, sym, ◌∙◌}
use Rattle.spec_trees.specs.Tree.{bind}
use Rattle.spec_clauses.specs.Fact.{terms_of}
use Rattle.clause_form.specs.Facts.{fact_of}
use Rattle.term_tree.specs.Bank.{tree_at}
use Rattle.multiset_subsume.proofs.Refuting.{terms_apart}
use Rattle.multiset_subsume.proofs.quick.may_match.Goals as goal

pub returns : goal.returns
returns g c none =
    let all = g.B.Bank.trees c.args.bank.now in
    let generals : c.as_slice.result.now ≡ terms_of (fact_of c.args.general.now) = c.as_slice.ensures ∙ c.terms-generals.ensures in
    let specials : c.as_slice-2.result.now ≡ terms_of (fact_of c.args.special.now) = c.as_slice-2.ensures ∙ c.terms-specials.ensures in
    terms_apart all (fact_of c.args.general.now) (fact_of c.args.special.now) (λ s e.
    c.all_roots_match.ensures none s (ap (λ ids. map (bind s) (map (tree_at all) ids)) generals ∙ (e ∙ ap (map (tree_at all)) (sym specials))))
