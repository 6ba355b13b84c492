-- What contracts see of owned trees.
use Rattle.spec_trees.specs.Tree.{Leaf, node}
use Rattle.spec_terms.specs.Term.{Term}
use Rattle.term_tree.specs.Bank.{symbol_of}
use Rattle.clause_diffs.specs.declared.plain.Tree.{Tree}
use Rattle.clause_diffs.specs.declared.plain.Tree.TheVariants.{Var, App}

abbrev pub term_of : Tree → Term
term_of (Var x) = Leaf x
term_of (App f ts) = node (symbol_of f) ts
