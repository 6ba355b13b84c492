-- The leaves of trees in order, and variables that are numbered by first occurrence.
use Rattle.std.specs.Prelude.{ℕ, ◌+◌, ◌<◌, ◌≤◌, max, List, [], ◌∷◌}
use Rattle.spec_trees.specs.Tree.{Tree, trees}
pub use Rattle.spec_trees.specs.Leaves.{leaves, row_leaves}
use Rattle.spec_calculus.specs.Syntax.{Name, Free, Made, Variable}

-- the leaves of trees in a list
abbrev pub leaves_of : {L S : Type 0} → List (Tree L S) → List L
leaves_of ts = row_leaves (trees ts)

-- variables are numbered by first occurrence: each has the number of one before, of which there are so many, or the next
abbrev pub AreNumberedBehind : ℕ → List Name → Type 0
AreNumberedBehind before [] = Unit {0}
AreNumberedBehind before (Variable i ∷ xs) = (0 < i) × (i ≤ before + 1) × AreNumberedBehind (max before i) xs
AreNumberedBehind before (Free n ∷ xs) = AreNumberedBehind before xs
AreNumberedBehind before (Made p ∷ xs) = AreNumberedBehind before xs

-- from 1, by first occurrence
abbrev pub AreNumbered : List Name → Type 0
AreNumbered xs = AreNumberedBehind 0 xs
