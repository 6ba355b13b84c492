use Rattle.std.proofs.Common.{◌≡◌, ◌+◌, ◌∙◌, ap, map, take, sym, refl}
use Rattle.spec_trees.specs.Tree.{size}
use Rattle.spec_calculus.specs.Syntax.{Constructor}
use Rattle.spec_calculus.specs.Syntax as calculus
use Rattle.spec_clauses.specs.Fact.{total}
use Rattle.spec_translation.specs.Conversion.{term_in, leaf_term}
use Rattle.term_tree.specs.Bank.{capped}
use Rattle.clause_form.proofs.Lists.{total_more, total_all, total-map}
use Rattle.pi_tree.specs.declared.syntax.Term as declared
use Rattle.pi_tree.specs.Terms.{term_of}
use Rattle.clause_terms.specs.Scopes.{scope_at}
use Rattle.clause_terms.proofs.Measuring.{node_size}
use Rattle.clause_terms.proofs.sizes.+size.Goals as goal

pub size_in-returns-in-App : goal.size_in-returns-in-App
size_in-returns-in-App g t c = λ P.
    let s = scope_at (g.B.Bank.trees c.args.bank.now) c.args.scope.now in
    c.add_symbols.ensures 1 (total size (map (term_in P s) c.in-App.arguments)) refl (c.sizes_in.ensures P)
    ∙ ap capped (node_size P (leaf_term s) (term_of c.args.term.now) (Constructor c.in-App.field-0) c.in-App.arguments (ap term_of c.in-App.is))

pub size_in-returns-in-Tuple : goal.size_in-returns-in-Tuple
size_in-returns-in-Tuple g t c = λ P.
    let s = scope_at (g.B.Bank.trees c.args.bank.now) c.args.scope.now in
    c.add_symbols-in-Tuple.ensures 1 (total size (map (term_in P s) c.in-Tuple.parts)) refl (c.sizes_in-in-Tuple.ensures P)
    ∙ ap capped (node_size P (leaf_term s) (term_of c.args.term.now) calculus.Tuple c.in-Tuple.parts (ap term_of c.in-Tuple.is))

pub sizes_in-loop-term-preserved : goal.sizes_in-loop-term-preserved
sizes_in-loop-term-preserved g t c = λ P.
    let s = scope_at (g.B.Bank.trees c.args.bank.now) c.args.scope.now in
    let one = λ (x : declared.Term). size (term_in P s (term_of x)) in
    let done = total one (take c.loop-term.term-index c.deref-term-items.result.now) in
    c.add_symbols-symbols.ensures done (one c.term-item.result) (c.loop-term.invariant P) (c.size_in.ensures P)
    ∙ ap capped (ap (λ x. done + one x) c.term-item.is ∙ sym (total_more one c.deref-term-items.result.now c.loop-term.term-index c.term-item.result c.loop-term-test.true))

pub sizes_in-returns : goal.sizes_in-returns
sizes_in-returns g t c = λ P.
    let s = scope_at (g.B.Bank.trees c.args.bank.now) c.args.scope.now in
    let items = c.deref-term-items.result.now in
    let seen : map term_of items ≡ c.args.terms.now = ap (map term_of) c.deref-term-items.ensures.value ∙ c.terms.view_is in
    c.loop-term.invariant P
    ∙ ap capped (total_all (λ x. size (term_in P s (term_of x))) items c.loop-term.term-index c.loop-term-test.false
    ∙ (sym (total-map (λ u. size (term_in P s u)) term_of items) ∙ (ap (total (λ u. size (term_in P s u))) seen ∙ sym (total-map size (term_in P s) c.args.terms.now))))
