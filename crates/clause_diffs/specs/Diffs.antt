-- Constraints over terms of any kind, and over the ids of a bank with the trees that these name.
use Rattle.std.specs.Prelude.{◌≡◌, ℕ, ◌<◌, List, [], ◌∷◌, map}
use Rattle.std.specs.List.{AllByRecursion}
use Rattle.spec_trees.specs.Tree.{Leaf, bind}
use Rattle.spec_terms.specs.Term.{Term}
use Rattle.spec_clauses.specs.Diff.{Side, Diff}
use Rattle.spec_clauses.specs.Shown.{Shown, slot_shown, diff_shown, shown_variables}
use Rattle.term_tree.specs.Bank.{tree_at, AreKnown}
use Rattle.term_tree.specs.declared.bank.Id.{Id}

-- two lists of terms that are not to be equal: a variable below `first` is the clause's, and from there on the constraint binds them
pub record DiffOf (X : Type 0) : Type 0 where
  pub first : ℕ
  pub left : List X
  pub right : List X

-- a term as a side, where variables from `first` on are bound
abbrev pub side_shown : ℕ → Term → Side
side_shown first t = bind (λ x. Leaf (slot_shown first x)) t

-- the terms that ids name, as sides
abbrev pub sides_at : List Term → ℕ → List Id → List Side
sides_at all first ids = map (side_shown first) (map (tree_at all) ids)

-- the constraint of the trees that the ids name: as it is written, and what it is
abbrev pub shown_at : List Term → DiffOf Id → Shown
shown_at all d = record { first = d.first; left = map (tree_at all) d.left; right = map (tree_at all) d.right }

abbrev pub diff_at : List Term → DiffOf Id → Diff
diff_at all d = diff_shown (shown_at all d)

abbrev pub diffs_at : List Term → List (DiffOf Id) → List Diff
diffs_at all ds = map (diff_at all) ds

-- each id of the constraint, of the constraints, names a tree
pub record IsDiffIn (all : List Term) (d : DiffOf Id) : Type 0 where
  pub left : AreKnown all d.left
  pub right : AreKnown all d.right

abbrev pub AreDiffsIn : List Term → List (DiffOf Id) → Type 0
AreDiffsIn all [] = Unit {0}
AreDiffsIn all (d ∷ ds) = IsDiffIn all d × AreDiffsIn all ds

-- the ids, those of the constraint, of the constraints, name the trees of these
pub record NameTerms (all : List Term) (ids : List Id) (trees : List Term) : Type 0 where
  pub known : AreKnown all ids
  pub are : map (tree_at all) ids ≡ trees

pub record NamesDiff (all : List Term) (d : DiffOf Id) (tree : Diff) : Type 0 where
  pub known : IsDiffIn all d
  pub is : diff_at all d ≡ tree

pub record NameDiffs (all : List Term) (ds : List (DiffOf Id)) (trees : List Diff) : Type 0 where
  pub known : AreDiffsIn all ds
  pub are : diffs_at all ds ≡ trees

-- all variables in the constraint's terms, of the clause or bound, are below n
abbrev pub AreDiffLeavesBelow : ℕ → List Term → DiffOf Id → Type 0
AreDiffLeavesBelow n all d = AllByRecursion (λ x. x < n) (shown_variables (shown_at all d))

-- the variables that the constraints bind have the numbers from n on
abbrev pub StartAt : ℕ → List (DiffOf Id) → Type 0
StartAt n ds = AllByRecursion (λ (d : DiffOf Id). d.first ≡ n) ds
