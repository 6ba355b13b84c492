use Rattle.std.proofs.Common.{ℕ, List, map, Option, IfSome, OnOk, subst, arith}
use Rattle.std.proofs.lemmas.Grind.{common_steps}
use Rattle.spec_trees.specs.Tree.{node}
use Rattle.spec_terms.specs.Term.{Term}
use Rattle.term_tree.specs.Bank.{symbol_of, tree_at, Names}
use Rattle.term_store.specs.SharedBank.{id_at, AddsNew}
use Rattle.term_store.proofs.Adding.{Finds-known}
use Rattle.term_store.proofs.shared_bank.SharedBankBank.app.Goals as goal

pub returns-in-Some-clause-found : goal.returns-in-Some-clause-found
returns-in-Some-clause-found c =
    let all = c.args.self.now in
    let t = node (symbol_of c.args.symbol) (map (tree_at all) c.args.args.now) in
    Finds-known all c.find.new.self t (id_at c.in-Some.index) c.find.ensures.same c.equal_trees_have_equal_ids.ensures
    (subst (λ (o : Option ℕ). IfSome o (λ k. Names all (id_at k) t)) c.in-Some.is c.in_ok-index.ensures.found)

pub returns-in-None-clause-added : goal.returns-in-None-clause-added
returns-in-None-clause-added c =
    subst (λ (all : List Term). OnOk c.insert.result (AddsNew all c.insert.new.self (node (symbol_of c.args.symbol) (map (tree_at all) c.args.args.now)))) c.find.ensures.same c.insert.ensures.added

pub returns-in-Some-clause-names : goal.returns-in-Some-clause-names
returns-in-Some-clause-names c = grind (arith, common_steps)
