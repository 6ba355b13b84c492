-- Variables of terms, patterns and rules where they are visited: all are below a number where those of the scope are.
use Rattle.std.proofs.Common.{ℕ, ◌+◌, ◌-◌, ◌<◌, ◌≤◌, max, List, [], ◌∷◌, map, filter_map, arith}
use Rattle.std.specs.List.{AllByRecursion}
use Rattle.spec_trees.specs.Leaves.{leaves}
use Rattle.spec_calculus.specs.Syntax.{Name, Made, Variable, Hole, Bind, Equal, Pattern, Rule, Protocol}
use Rattle.spec_calculus.specs.Syntax as calculus
use Rattle.spec_calculus.specs.Bounds.{most_written_symbols}
use Rattle.spec_well_formed.specs.Leaves.{leaves_of}
use Rattle.spec_well_formed.specs.Rules.{rule_leaves}
use Rattle.spec_clauses.specs.Variables.{IsBelow, AreBelow}
use Rattle.spec_clauses.proofs.Lists.{all_first, all_second, all_weaker}
use Rattle.spec_translation.specs.Conversion.{Scope, term_in, Fresh, hole_term, pattern_term, bound_number, hole_standing, rule_leaf, rule_term}
use Rattle.spec_translation.specs.Applied.{greatest, rule_width}
pub use Rattle.spec_translation.proofs.Below.{converted_below, term_in_below}
use Rattle.clause_terms.specs.Conditions.{IsRoomFor}
use Rattle.clause_terms.proofs.Rows.{leaves_row}
use Rattle.unified_visits.specs.Room.{rule_base}
use Rattle.unified_visits.specs.Short.{IsFitRule}

-- the number of a variable is no greater
abbrev IsUpTo : ℕ → Name → Type 0
IsUpTo n (calculus.Free k) = Unit {0}
IsUpTo n (Made p) = Unit {0}
IsUpTo n (Variable i) = i ≤ n

up_to_more : (m n : ℕ) → m ≤ n → (x : Name) → IsUpTo m x → IsUpTo n x
up_to_more m n up (calculus.Free k) e = tt
up_to_more m n up (Made p) e = tt
up_to_more m n up (Variable i) e = omega (arith, e, up)

up_to_greatest : (xs : List Name) → AllByRecursion (IsUpTo (greatest xs)) xs
up_to_greatest [] = tt
up_to_greatest (calculus.Free k ∷ xs) = (tt, up_to_greatest xs)
up_to_greatest (Made p ∷ xs) = (tt, up_to_greatest xs)
up_to_greatest (Variable i ∷ xs) = (omega arith, all_weaker (IsUpTo (greatest xs)) (IsUpTo (max i (greatest xs))) (up_to_more (greatest xs) (max i (greatest xs)) (omega arith)) xs (up_to_greatest xs))

module _ (P : Protocol) (n : ℕ) where
  pub terms_in_below : (scope : Scope) → AreBelow n (map (λ b. b.term) scope) → (ts : List calculus.Term) → AreBelow n (map (term_in P scope) ts)
  terms_in_below scope b [] = tt
  terms_in_below scope b (t ∷ ts) = (term_in_below P n scope b t, terms_in_below scope b ts)

  holes_below : (scope : Scope) (at : Fresh) → AreBelow n (map (λ b. b.term) scope) → (holes : List Hole) → AllByRecursion (λ i. at.base + (i - at.first) < n) (filter_map bound_number holes) → AllByRecursion (λ h. IsBelow n (hole_term P scope at h)) holes
  holes_below scope at b [] a = tt
  holes_below scope at b (Bind i ∷ holes) a = ((a.0, tt), holes_below scope at b holes a.1)
  holes_below scope at b (Equal t ∷ holes) a = (term_in_below P n scope b t, holes_below scope at b holes a)

  pub pattern_below : (scope : Scope) (at : Fresh) → AreBelow n (map (λ b. b.term) scope) → (pattern : Pattern) → AllByRecursion (λ i. at.base + (i - at.first) < n) (filter_map bound_number (leaves pattern)) → IsBelow n (pattern_term P scope at pattern)
  pattern_below scope at b pattern a = converted_below P n (hole_term P scope at) pattern (holes_below scope at b (leaves pattern) a)

  -- a rule's, whose variables are those from a base on up to the greatest number
  rule_leaf_below : (base top : ℕ) → base + top < n → (x : Name) → IsUpTo top x → IsBelow n (rule_leaf base x)
  rule_leaf_below base top up (calculus.Free k) e = tt
  rule_leaf_below base top up (Made p) e = tt
  rule_leaf_below base top up (Variable i) e = (omega (arith, e, up), tt)

  rule_term_below : (base top : ℕ) → base + top < n → (t : calculus.Term) → AllByRecursion (IsUpTo top) (leaves t) → IsBelow n (rule_term P base t)
  rule_term_below base top up t e = converted_below P n (rule_leaf base) t (all_weaker (IsUpTo top) (λ x. IsBelow n (rule_leaf base x)) (rule_leaf_below base top up) (leaves t) e)

  rule_terms_below : (base top : ℕ) → base + top < n → (ts : List calculus.Term) → AllByRecursion (λ t. AllByRecursion (IsUpTo top) (leaves t)) ts → AreBelow n (map (rule_term P base) ts)
  rule_terms_below base top up [] e = tt
  rule_terms_below base top up (t ∷ ts) e = (rule_term_below base top up t e.0, rule_terms_below base top up ts e.1)

  pub sides_below : (base : ℕ) (rule : Rule) → base + rule_width rule < n → AreBelow n (map (rule_term P base) rule.left)
  sides_below base rule up =
      rule_terms_below base (rule_width rule) up rule.left (leaves_row (IsUpTo (rule_width rule)) rule.left (all_first (IsUpTo (rule_width rule)) (leaves_of rule.left) (leaves rule.right) (up_to_greatest (rule_leaves rule))))

  pub right_below : (base : ℕ) (rule : Rule) → base + rule_width rule < n → IsBelow n (rule_term P base rule.right)
  right_below base rule up = rule_term_below base (rule_width rule) up rule.right (all_second (IsUpTo (rule_width rule)) (leaves_of rule.left) (leaves rule.right) (up_to_greatest (rule_leaves rule)))

-- what a pattern binds
pub bound_below : (n : ℕ) (at : Fresh) (holes : List Hole) → AllByRecursion (λ i. at.base + (i - at.first) < n) (filter_map bound_number holes) → AreBelow n (map (λ b. b.term) (filter_map (hole_standing at) holes))
bound_below n at [] a = tt
bound_below n at (Bind i ∷ holes) a = ((a.0, tt), bound_below n at holes a.1)
bound_below n at (Equal t ∷ holes) a = bound_below n at holes a

-- a rule with few variables takes few new ones
greatest_few : (xs : List Name) → AllByRecursion (IsRoomFor rule_base) xs → greatest xs ≤ most_written_symbols
greatest_few [] e = omega arith
greatest_few (calculus.Free k ∷ xs) e = greatest_few xs e.1
greatest_few (Made p ∷ xs) e = greatest_few xs e.1
greatest_few (Variable i ∷ xs) e = let others = greatest_few xs e.1 in omega (arith, e.0, others)

pub width_few : (rule : Rule) → IsFitRule rule → rule_width rule ≤ most_written_symbols
width_few rule fit = greatest_few (rule_leaves rule) fit.few
