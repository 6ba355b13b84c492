-- Bounds of the numbers of all variables in constraints, of the clause or bound.
use Rattle.std.proofs.Common.{◌≡◌, ℕ, zero, suc, ◌<◌, ◌≤◌, List, [], ◌∷◌, ◌++◌, length, map, get_or, sym, subst, arith}
use Rattle.std.specs.List.{AllByRecursion}
use Rattle.spec_terms.specs.Term.{Term}
use Rattle.spec_clauses.specs.Shown.{Shown, shown_variables}
use Rattle.spec_clauses.specs.Variables.{leaves, IsBelow, AreBelow}
use Rattle.spec_clauses.proofs.Lists.{all_append, all_first, all_second, all_weaker, all-flat_map, all-from_flat_map}
use Rattle.term_tree.specs.Bank.{tree_at, Grows}
use Rattle.term_tree.specs.declared.bank.Id.{Id}
use Rattle.term_tree.proofs.BankLaws.{trees_at-grow}
use Rattle.clause_diffs.specs.Diffs.{DiffOf, shown_at, IsDiffIn, AreDiffsIn, AreDiffLeavesBelow}

pub diffs_below_more : (m n : ℕ) (all : List Term) (ds : List (DiffOf Id)) → m ≤ n → AllByRecursion (AreDiffLeavesBelow m all) ds → AllByRecursion (AreDiffLeavesBelow n all) ds
diffs_below_more m n all ds less below = all_weaker (AreDiffLeavesBelow m all) (AreDiffLeavesBelow n all) (λ d h. all_weaker (λ x. x < m) (λ x. x < n) (λ x l. omega arith) (shown_variables (shown_at all d)) h) ds below

-- The variables in both lists of a constraint's terms are those of the constraint.
pub left_below : (n : ℕ) (all : List Term) (d : DiffOf Id) → AreDiffLeavesBelow n all d → AreBelow n (map (tree_at all) d.left)
left_below n all d below =
    all_first (IsBelow n) (map (tree_at all) d.left) (map (tree_at all) d.right) (all-from_flat_map (λ x. x < n) leaves (map (tree_at all) d.left ++ map (tree_at all) d.right) below)

pub right_below : (n : ℕ) (all : List Term) (d : DiffOf Id) → AreDiffLeavesBelow n all d → AreBelow n (map (tree_at all) d.right)
right_below n all d below =
    all_second (IsBelow n) (map (tree_at all) d.left) (map (tree_at all) d.right) (all-from_flat_map (λ x. x < n) leaves (map (tree_at all) d.left ++ map (tree_at all) d.right) below)

pub sides_below : (n : ℕ) (all : List Term) (d : DiffOf Id) → AreBelow n (map (tree_at all) d.left) → AreBelow n (map (tree_at all) d.right) → AreDiffLeavesBelow n all d
sides_below n all d left right =
    all-flat_map (λ x. x < n) leaves (map (tree_at all) d.left ++ map (tree_at all) d.right) (all_append (IsBelow n) (map (tree_at all) d.left) (map (tree_at all) d.right) left right)

-- As the bank grows,
shown_at-grows : (a b : List Term) (d : DiffOf Id) → Grows a b → IsDiffIn a d → shown_at b d ≡ shown_at a d
shown_at-grows a b d grows known =
    let left = trees_at-grow a b d.left grows known.left in
    let right = trees_at-grow a b d.right grows known.right in
    λ i. record { first = d.first; left = left i; right = right i }

pub diff_below-grows : (n : ℕ) (a b : List Term) (d : DiffOf Id) → Grows a b → IsDiffIn a d → AreDiffLeavesBelow n a d → AreDiffLeavesBelow n b d
diff_below-grows n a b d grows known below = subst (λ (e : Shown). AllByRecursion (λ x. x < n) (shown_variables e)) (sym (shown_at-grows a b d grows known)) below

pub diffs_below-grow : (n : ℕ) (a b : List Term) (ds : List (DiffOf Id)) → Grows a b → AreDiffsIn a ds → AllByRecursion (AreDiffLeavesBelow n a) ds → AllByRecursion (AreDiffLeavesBelow n b) ds
diffs_below-grow n a b [] grows known below = tt
diffs_below-grow n a b (d ∷ ds) grows known below = (diff_below-grows n a b d grows known.0 below.0, diffs_below-grow n a b ds grows known.1 below.1)

-- and at a place:
diff_below_in : (n : ℕ) (all : List Term) (ds : List (DiffOf Id)) (i : ℕ) (d : DiffOf Id) → AllByRecursion (AreDiffLeavesBelow n all) ds → i < length ds → AreDiffLeavesBelow n all (get_or ds i d)
diff_below_in n all [] i d below within = absurd (omega arith)
diff_below_in n all (e ∷ ds) zero d below within = below.0
diff_below_in n all (e ∷ ds) (suc i) d below within = diff_below_in n all ds i d below.1 (omega arith)

pub diff_below_at : (n : ℕ) (all : List Term) (ds : List (DiffOf Id)) (i : ℕ) (d : DiffOf Id) → d ≡ get_or ds i d → AllByRecursion (AreDiffLeavesBelow n all) ds → i < length ds → AreDiffLeavesBelow n all d
diff_below_at n all ds i d is below within = subst (λ (e : DiffOf Id). AreDiffLeavesBelow n all e) (sym is) (diff_below_in n all ds i d below within)
