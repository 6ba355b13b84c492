-- The variables that patterns bind.
use Rattle.std.specs.Prelude.{ℕ, List, filter_map}
use Rattle.spec_trees.specs.Tree.{Trees}
use Rattle.spec_trees.specs.Leaves.{row_leaves}
use Rattle.spec_calculus.specs.Syntax.{Hole, Symbol}
use Rattle.spec_translation.specs.Conversion.{bound_number}

-- those of a row of patterns, in order
abbrev pub row_numbers : Trees Hole Symbol → List ℕ
row_numbers ps = filter_map bound_number (row_leaves ps)
