use Rattle.term_tree.proofs.BankLaws.{tree_at-grows, AreKnown-grows, trees_at-grow, Names-grows, tree_at-take, Names-take, take-grows}
use Rattle.term_tree.proofs.ids_keep_their_trees.Goals as goal

pub returns-clause-grown : goal.returns-clause-grown
returns-clause-grown c = tree_at-grows

pub returns-clause-all_grown : goal.returns-clause-all_grown
returns-clause-all_grown c = λ a b ids grows known. (AreKnown-grows a b ids grows known, trees_at-grow a b ids grows known)

pub returns-clause-cut : goal.returns-clause-cut
returns-clause-cut c = tree_at-take

pub returns-clause-named : goal.returns-clause-named
returns-clause-named c = Names-grows

pub returns-clause-named_cut : goal.returns-clause-named_cut
returns-clause-named_cut c = Names-take

pub returns-clause-undone : goal.returns-clause-undone
returns-clause-undone c = take-grows
