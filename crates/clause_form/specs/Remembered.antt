-- Terms of a bank that were renumbered, with what they are then.
use Rattle.std.specs.Prelude.{◌<◌, Option, Some, None, List, length}
use Rattle.std.specs.List.{AllByRecursion}
use Rattle.spec_trees.specs.Tree.{bind}
use Rattle.spec_terms.specs.Term.{Term, Subst}
use Rattle.term_tree.specs.Bank.{tree_at, Names}
use Rattle.clause_form.specs.declared.memo.Change.{Change}

-- where a change is remembered, it is that of a term of the bank, made what this term is under s
abbrev pub IsRemembered : List Term → Subst → Option Change → Type 0
IsRemembered all s None = Unit {0}
IsRemembered all s (Some change) = (change.term.index < length all) × Names all change.made (bind s (tree_at all change.term))

-- each change that is remembered
abbrev pub AreRemembered : List Term → Subst → List (Option Change) → Type 0
AreRemembered all s changes = AllByRecursion (IsRemembered all s) changes
