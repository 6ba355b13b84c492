use Rattle.std.proofs.Common.{◌∙◌, ap, sym}
use Rattle.spec_trees.specs.Tree.{size}
use Rattle.term_tree.specs.Bank.{tree_at, capped}
use Rattle.clause_diffs.proofs.Lists.{total_more, total_all, total-map}
use Rattle.clause_diffs.proofs.Walks.{known_at}
use Rattle.clause_diffs.proofs.size.size_of_terms.Goals as goal

pub size-requires : goal.size-requires
size-requires g c = known_at (g.B.Bank.trees c.args.bank.now) c.args.terms.now c.loop-term.term-index record { index = 0 } c.requires c.loop-term-test.true

pub loop-term-preserved : goal.loop-term-preserved
loop-term-preserved g c =
    let all = g.B.Bank.trees c.args.bank.now in
    c.add_symbols-symbols.ensures _ _ c.loop-term.invariant c.size.ensures
    ∙ ap capped (sym (total_more (λ id. size (tree_at all id)) c.args.terms.now c.loop-term.term-index record { index = 0 } c.loop-term-test.true))

pub returns : goal.returns
returns g c =
    let all = g.B.Bank.trees c.args.bank.now in
    c.loop-term.invariant ∙ ap capped (total_all (λ id. size (tree_at all id)) c.args.terms.now c.loop-term.term-index c.loop-term-test.false ∙ sym (total-map size (tree_at all) c.args.terms.now))
