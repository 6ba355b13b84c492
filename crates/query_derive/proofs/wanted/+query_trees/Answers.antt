use Rattle.std.proofs.Common.{◌≡◌, ◌∙◌, ap, sym, length, map, arith}
use Rattle.spec_trees.specs.Tree.{node, trees, sizes}
use Rattle.spec_calculus.specs.Syntax.{Constructor}
use Rattle.spec_calculus.specs.Syntax as calculus
use Rattle.spec_terms.specs.Term.{Tuple}
use Rattle.spec_translation.specs.Goal.{query_term}
use Rattle.spec_translation.specs.Conversion.{symbol_over}
use Rattle.pi_tree.specs.Terms.{term_of}
use Rattle.pi_tree.specs.Protocols.{protocol_of}
use Rattle.clause_form.specs.Plain.{term_of as tree_term}
use Rattle.query_derive.proofs.Converting.{query_node, size_at, made_all}
use Rattle.std.proofs.lemmas.Grind.{common_steps}
use Rattle.query_derive.proofs.wanted.+query_trees.Goals as goal

pub tree_of-returns-in_ok-items-in-App : goal.tree_of-returns-in_ok-items-in-App
tree_of-returns-in_ok-items-in-App t c =
    ap (λ f. node f c.in_ok-items-in-App.items) (c.constructor_symbol.ensures (length c.in-App.arguments))
    ∙ (ap (node (symbol_over (protocol_of c.args.protocol.now) (length c.in-App.arguments) (Constructor c.in-App.constructor))) c.in_ok-items-in-App.ensures
    ∙ (query_node (protocol_of c.args.protocol.now) (Constructor c.in-App.constructor) c.in-App.arguments
    ∙ ap (λ u. query_term (protocol_of c.args.protocol.now) (term_of u)) (sym c.in-App.is)))

pub tree_of-returns-in_ok-items-in-Tuple : goal.tree_of-returns-in_ok-items-in-Tuple
tree_of-returns-in_ok-items-in-Tuple t c =
    ap (λ f. node f c.in_ok-items-in-Tuple.items) c.tuple_symbol.ensures
    ∙ (ap (node (Tuple (length c.in-Tuple.parts))) c.in_ok-items-in-Tuple.ensures
    ∙ (query_node (protocol_of c.args.protocol.now) calculus.Tuple c.in-Tuple.parts
    ∙ ap (λ u. query_term (protocol_of c.args.protocol.now) (term_of u)) (sym c.in-Tuple.is)))

pub trees_of-tree_of-requires : goal.trees_of-tree_of-requires
trees_of-tree_of-requires t c =
    let are : map term_of c.deref-term-items.result.now ≡ c.args.terms.now = ap (map term_of) c.deref-term-items.ensures.value ∙ c.terms.view_is in
    let sum : sizes (trees (map term_of c.deref-term-items.result.now)) ≡ sizes (trees c.args.terms.now) = ap (λ ts. sizes (trees ts)) are in
    let part = size_at c.deref-term-items.result.now c.loop-term.term-index c.term-item.result c.loop-term-test.true c.term-item.is in
    (omega (arith, c.decreases, sum, part), omega (arith, sum, part, c.requires))

pub trees_of-returns : goal.trees_of-returns
trees_of-returns t c =
    let are : map term_of c.deref-term-items.result.now ≡ c.args.terms.now = ap (map term_of) c.deref-term-items.ensures.value ∙ c.terms.view_is in
    made_all (query_term (protocol_of c.args.protocol.now)) term_of c.deref-term-items.result.now c.loop-term.term-index (map tree_term c.loop-term.items.items) c.loop-term-test.false c.loop-term.invariant
    ∙ ap (map (query_term (protocol_of c.args.protocol.now))) are

pub trees_of-loop-term-preserved : goal.trees_of-loop-term-preserved
trees_of-loop-term-preserved t c = grind (arith, common_steps)

pub trees_of-loop-term-init : goal.trees_of-loop-term-init
trees_of-loop-term-init t c = ap (map tree_term) c.in_ok-items.ensures.items
