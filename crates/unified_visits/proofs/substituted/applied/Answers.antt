use Rattle.std.proofs.Common.{◌≡◌, List, map, ap, sym, subst, eq-eqb}
use Rattle.std.proofs.lemmas.Slice.Eq.{slice_eq-Decides}
use Rattle.spec_trees.specs.Tree.{node}
use Rattle.term_tree.specs.Bank.{symbol_of, tree_at, Names}
use Rattle.term_tree.specs.declared.bank.Id.{Id}
use Rattle.unified_visits.proofs.Building.{same_id}
use Rattle.term_tree.proofs.BankLaws.{Grows_refl}
use Rattle.unified_visits.proofs.substituted.applied.Goals as goal

pub returns-then-eq-clause-names : goal.returns-then-eq-clause-names
returns-then-eq-clause-names g c =
    let old = g.B.Bank.trees c.args.bank.now in
    let same : c.args.now.now ≡ c.args.arguments.now = (slice_eq-Decides (λ (a b : Id). (same_id a b, λ e. eq-eqb a.index b.index (ap (λ (x : Id). x.index) e))) _ _ _ c.eq.ensures).0 c.if-eq.true in
    subst (λ (l : List Id). Names old c.args.id (node (symbol_of c.args.symbol) (map (tree_at old) l))) (sym same) c.requires.id

pub returns-then-eq-clause-grows : goal.returns-then-eq-clause-grows
returns-then-eq-clause-grows g c = Grows_refl (g.B.Bank.trees c.args.bank.now)
