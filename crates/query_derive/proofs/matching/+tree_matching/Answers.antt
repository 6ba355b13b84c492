use Rattle.std.proofs.Common.{◌≡◌, ◌+◌, true, false, List, get_or, length, map, drop, ap, sym, subst, refl, arith, ◌∙◌}
use Rattle.std.specs.Prelude.{IfOk}
use Rattle.std.proofs.lemmas.Bool.{false≢true}
use Rattle.std.proofs.lemmas.List.{length-map}
use Rattle.spec_trees.specs.Tree.{sizes, trees, node}
use Rattle.spec_terms.specs.Term.{Term}
use Rattle.spec_terms.specs.Unifier.{Matches, MatchesAll}
use Rattle.term_tree.specs.Bank.{tree_at, symbol_of}
use Rattle.term_tree.proofs.BankLaws.{symbol_of-injective}
use Rattle.unify_match.proofs.Trails.{Extends-trans}
use Rattle.clause_diffs.specs.declared.plain.Tree as declared
use Rattle.clause_form.specs.Plain.{term_of}
use Rattle.clause_form.proofs.Walks.{known_at}
use Rattle.query_derive.specs.Narrowing.{Narrows, Excludes}
use Rattle.query_derive.proofs.Narrowing.{remains_begin, remains_on, remains_fail, remains_end, yes_same, no_same, node_made, node_is_made, variable_unmade, matches_at, matches_past, lengths_unmade, tree_size_at}
use Rattle.query_derive.proofs.matching.+tree_matching.Goals as goal

pub match_tree-returns-in-Var-clause-yes : goal.match_tree-returns-in-Var-clause-yes
match_tree-returns-in-Var-clause-yes g t c =
    let all = g.B.Bank.trees c.args.bank.now in
    subst (λ (tree : declared.Tree). IfOk c.match_variable.result (λ yes. yes ≡ true → Narrows all c.args.binds.now.pairs c.match_variable.new.binds.pairs (λ s. Matches s (term_of tree) (tree_at all c.args.id))))
    (sym c.in-Var.is) c.match_variable.ensures.yes

pub match_tree-returns-in-Var-clause-no : goal.match_tree-returns-in-Var-clause-no
match_tree-returns-in-Var-clause-no g t c =
    let all = g.B.Bank.trees c.args.bank.now in
    subst (λ (tree : declared.Tree). IfOk c.match_variable.result (λ yes. yes ≡ false → Excludes all c.args.binds.now.pairs (λ s. Matches s (term_of tree) (tree_at all c.args.id))))
    (sym c.in-Var.is) c.match_variable.ensures.no

pub match_tree-returns-else-not-is_same-clause-yes : goal.match_tree-returns-else-not-is_same-clause-yes
match_tree-returns-else-not-is_same-clause-yes g t c =
    let all = g.B.Bank.trees c.args.bank.now in
    let f = symbol_of c.in-App.symbol in
    let h = symbol_of c.in-App-node.other in
    let us = map (tree_at all) c.in-App-node.ids.now in
    let one : f ≡ h = ap symbol_of (c.if-not-is_same.ensures.0 refl) in
    subst (λ (tree : declared.Tree). IfOk c.match_trees.result (λ yes. yes ≡ true → Narrows all c.args.binds.now.pairs c.match_trees.new.binds.pairs (λ s. Matches s (term_of tree) (tree_at all c.args.id))))
    (sym c.in-App.is)
    (yes_same all c.args.binds.now.pairs c.match_trees.new.binds.pairs (λ s. MatchesAll s c.in-App.parts us) (λ s. Matches s (node f c.in-App.parts) (tree_at all c.args.id)) c.match_trees.result
    (λ s. (λ e. node_is_made s f h c.in-App.parts us (tree_at all c.args.id) c.in-App-node.ensures.0 one e, λ e. (node_made s f h c.in-App.parts us (tree_at all c.args.id) c.in-App-node.ensures.0 e).1)) c.match_trees.ensures.yes)

pub match_tree-returns-else-not-is_same-clause-no : goal.match_tree-returns-else-not-is_same-clause-no
match_tree-returns-else-not-is_same-clause-no g t c =
    let all = g.B.Bank.trees c.args.bank.now in
    let f = symbol_of c.in-App.symbol in
    let h = symbol_of c.in-App-node.other in
    let us = map (tree_at all) c.in-App-node.ids.now in
    let one : f ≡ h = ap symbol_of (c.if-not-is_same.ensures.0 refl) in
    subst (λ (tree : declared.Tree). IfOk c.match_trees.result (λ yes. yes ≡ false → Excludes all c.args.binds.now.pairs (λ s. Matches s (term_of tree) (tree_at all c.args.id))))
    (sym c.in-App.is)
    (no_same all c.args.binds.now.pairs c.match_trees.new.binds.pairs (λ s. MatchesAll s c.in-App.parts us) (λ s. Matches s (node f c.in-App.parts) (tree_at all c.args.id)) c.match_trees.result
    (λ s. (λ e. node_is_made s f h c.in-App.parts us (tree_at all c.args.id) c.in-App-node.ensures.0 one e, λ e. (node_made s f h c.in-App.parts us (tree_at all c.args.id) c.in-App-node.ensures.0 e).1)) c.match_trees.ensures.no)

pub match_tree-returns-then-not-is_same-clause-no : goal.match_tree-returns-then-not-is_same-clause-no
match_tree-returns-then-not-is_same-clause-no g t c = λ _ s agrees made.
    let all = g.B.Bank.trees c.args.bank.now in
    let f = symbol_of c.in-App.symbol in
    let h = symbol_of c.in-App-node.other in
    let root : Matches s (node f c.in-App.parts) (tree_at all c.args.id) = subst (λ (tree : declared.Tree). Matches s (term_of tree) (tree_at all c.args.id)) c.in-App.is made in
    let one = (node_made s f h c.in-App.parts (map (tree_at all) c.in-App-node.ids.now) (tree_at all c.args.id) c.in-App-node.ensures.0 root).0 in
    false≢true (c.if-not-is_same.ensures.1 (symbol_of-injective c.in-App.symbol c.in-App-node.other one))

pub match_tree-returns-in-Var-node-clause-no : goal.match_tree-returns-in-Var-node-clause-no
match_tree-returns-in-Var-node-clause-no g t c = λ _ s agrees made.
    let all = g.B.Bank.trees c.args.bank.now in
    variable_unmade s (symbol_of c.in-App.symbol) c.in-App.parts c.in-Var-node.field-0 (tree_at all c.args.id) c.in-Var-node.ensures
    (subst (λ (tree : declared.Tree). Matches s (term_of tree) (tree_at all c.args.id)) c.in-App.is made)

pub match_trees-match_tree-requires : goal.match_trees-match_tree-requires
match_trees-match_tree-requires g t c κs within =
    let all = g.B.Bank.trees c.args.bank.now in
    let are : map term_of c.deref-tree-items.result.now ≡ c.args.trees.now = ap (map term_of) c.deref-tree-items.ensures.value ∙ c.trees.view_is in
    let sum : sizes (trees (map term_of c.deref-tree-items.result.now)) ≡ sizes (trees c.args.trees.now) = ap (λ ts. sizes (trees ts)) are in
    let part = tree_size_at c.deref-tree-items.result.now c.each.i c.tree-item.result c.each-test.true c.tree-item.is in
    let even : length c.deref-tree-items.result.now ≡ length c.args.ids.now = omega (arith, c.deref-tree-items.ensures.len, c.len.ensures, c.if-len-ids.false) in
    (omega (arith, c.decreases, sum, part), (within, (known_at all c.args.ids.now c.each.i record { index = 0 } c.requires.known (omega (arith, c.each-test.true, even)), c.each.invariant.bindings)))

pub match_trees-returns-in_err-match_tree-clause-extends : goal.match_trees-returns-in_err-match_tree-clause-extends
match_trees-returns-in_err-match_tree-clause-extends g t c = Extends-trans c.args.binds.now.pairs c.each.binds.pairs c.match_tree.new.binds.pairs c.each.invariant.extends c.match_tree.ensures.extends

pub match_trees-returns-then-not-branch-clause-extends : goal.match_trees-returns-then-not-branch-clause-extends
match_trees-returns-then-not-branch-clause-extends g t c = Extends-trans c.args.binds.now.pairs c.each.binds.pairs c.match_tree.new.binds.pairs c.each.invariant.extends c.match_tree.ensures.extends

pub match_trees-returns-then-not-branch-clause-no : goal.match_trees-returns-then-not-branch-clause-no
match_trees-returns-then-not-branch-clause-no g t c = λ _.
    let all = g.B.Bank.trees c.args.bank.now in
    let ts = c.deref-tree-items.result.now in
    let ids = c.args.ids.now in
    let are : map term_of ts ≡ c.args.trees.now = ap (map term_of) c.deref-tree-items.ensures.value ∙ c.trees.view_is in
    let even : length ts ≡ length ids = omega (arith, c.deref-tree-items.ensures.len, c.len.ensures, c.if-len-ids.false) in
    subst (λ (us : List Term). Excludes all c.args.binds.now.pairs (λ s. MatchesAll s us (map (tree_at all) ids))) are
    (remains_fail all c.args.binds.now.pairs c.each.binds.pairs (λ s. MatchesAll s (map term_of ts) (map (tree_at all) ids)) (λ s. MatchesAll s (map term_of (drop c.each.i ts)) (map (tree_at all) (drop c.each.i ids)))
    (λ s. Matches s (term_of c.tree-item.result) (tree_at all (get_or ids c.each.i record { index = 0 }))) c.each.invariant
    (λ s h. ((matches_at all s ts ids c.each.i c.tree-item.result record { index = 0 } c.each-test.true (omega (arith, c.each-test.true, even)) c.tree-item.is).0 h).0) (c.in_ok-match_tree.ensures.no c.if-not-branch.true))

pub match_trees-each-preserved : goal.match_trees-each-preserved
match_trees-each-preserved g t c =
    let all = g.B.Bank.trees c.args.bank.now in
    let ts = c.deref-tree-items.result.now in
    let ids = c.args.ids.now in
    let even : length ts ≡ length ids = omega (arith, c.deref-tree-items.ensures.len, c.len.ensures, c.if-len-ids.false) in
    remains_on all c.args.binds.now.pairs c.each.binds.pairs c.match_tree.new.binds.pairs (λ s. MatchesAll s (map term_of ts) (map (tree_at all) ids)) (λ s. MatchesAll s (map term_of (drop c.each.i ts)) (map (tree_at all) (drop c.each.i ids)))
    (λ s. Matches s (term_of c.tree-item.result) (tree_at all (get_or ids c.each.i record { index = 0 }))) (λ s. MatchesAll s (map term_of (drop (c.each.i + 1) ts)) (map (tree_at all) (drop (c.each.i + 1) ids))) c.each.invariant
    (λ s. matches_at all s ts ids c.each.i c.tree-item.result record { index = 0 } c.each-test.true (omega (arith, c.each-test.true, even)) c.tree-item.is)
    c.match_tree.ensures.bindings c.match_tree.ensures.extends (c.in_ok-match_tree.ensures.yes c.if-not-branch.false)

pub match_trees-returns-clause-yes : goal.match_trees-returns-clause-yes
match_trees-returns-clause-yes g t c = λ _.
    let all = g.B.Bank.trees c.args.bank.now in
    let ts = c.deref-tree-items.result.now in
    let ids = c.args.ids.now in
    let are : map term_of ts ≡ c.args.trees.now = ap (map term_of) c.deref-tree-items.ensures.value ∙ c.trees.view_is in
    let even : length ts ≡ length ids = omega (arith, c.deref-tree-items.ensures.len, c.len.ensures, c.if-len-ids.false) in
    subst (λ (us : List Term). Narrows all c.args.binds.now.pairs c.each.binds.pairs (λ s. MatchesAll s us (map (tree_at all) ids))) are
    (remains_end all c.args.binds.now.pairs c.each.binds.pairs (λ s. MatchesAll s (map term_of ts) (map (tree_at all) ids)) (λ s. MatchesAll s (map term_of (drop c.each.i ts)) (map (tree_at all) (drop c.each.i ids))) c.each.invariant
    (λ s. matches_past all s ts ids c.each.i c.each-test.false (omega (arith, c.each-test.false, even))))

pub match_trees-each-init : goal.match_trees-each-init
match_trees-each-init g t c =
    let all = g.B.Bank.trees c.args.bank.now in
    remains_begin all c.args.binds.now.pairs (λ s. MatchesAll s (map term_of c.deref-tree-items.result.now) (map (tree_at all) c.args.ids.now)) c.requires.bindings

pub match_trees-returns-then-len-ids-clause-no : goal.match_trees-returns-then-len-ids-clause-no
match_trees-returns-then-len-ids-clause-no g t c = λ _ s agrees.
    let all = g.B.Bank.trees c.args.bank.now in
    let are : map term_of c.trees.inside.items.items ≡ c.args.trees.now = c.trees.view_is in
    let count : c.len.result ≡ length c.args.trees.now = omega (arith, c.len.ensures, c.trees.inside.items.ok.0, ap length are, length-map c.trees.inside.items.items term_of) in
    lengths_unmade s c.args.trees.now (map (tree_at all) c.args.ids.now) (λ e. absurd (omega (arith, e, count, length-map c.args.ids.now (tree_at all), c.if-len-ids.true)))

pub match_trees-returns-then-not-branch-clause-yes : goal.match_trees-returns-then-not-branch-clause-yes
match_trees-returns-then-not-branch-clause-yes g t c = λ e. absurd (false≢true e)

pub match_tree-returns-then-not-is_same-clause-yes : goal.match_tree-returns-then-not-is_same-clause-yes
match_tree-returns-then-not-is_same-clause-yes g t c = λ e. absurd (false≢true e)

pub match_trees-returns-then-len-ids-clause-yes : goal.match_trees-returns-then-len-ids-clause-yes
match_trees-returns-then-len-ids-clause-yes g t c = λ e. absurd (false≢true e)

pub match_tree-returns-in-Var-node-clause-yes : goal.match_tree-returns-in-Var-node-clause-yes
match_tree-returns-in-Var-node-clause-yes g t c = λ e. absurd (false≢true e)
