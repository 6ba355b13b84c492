-- Variables set apart by an offset: two substitutions as one.
use Rattle.std.proofs.Common.{◌≡◌, ℕ, ◌+◌, ◌-◌, ◌<◌, ◌≤◌, cond, List, [], ◌∷◌, map, refl, ap, ◌∙◌, arith, lt-ltb, le-ltb}
use Rattle.std.specs.Prelude.{nat_lt, flat_map}
use Rattle.std.specs.List.{AllByRecursion}
use mathlib.Core.Path.{fun_ext}
use Rattle.std.proofs.lemmas.List.Folds.{flat_map-map}
use Rattle.spec_trees.specs.Tree.{Leaf, after}
use Rattle.spec_terms.specs.Term.{Term, Subst}
use Rattle.spec_terms.specs.Unifier.{moved}
use Rattle.spec_clauses.specs.Fact.{Fact, Clause, terms_of, facts_of, clause_terms, fact_under, clause_under}
use Rattle.spec_clauses.specs.Variables.{leaves, fact_variables, clause_variables, constrained_variables, all_terms, IsBelow, AreBelow}
use Rattle.spec_clauses.specs.Diff.{Diff, diff_under}
use Rattle.spec_clauses.specs.Flat.{flat, flat_under}
use Rattle.spec_clauses.proofs.Lists.{all_first, all_second, all-flat_map, all-from_flat_map, all_weaker}
use Rattle.spec_clauses.proofs.Diffs.{diffs_under-diffs_under}
use Rattle.spec_clauses.proofs.Facts.{fact_under-fact_under, facts_under-facts_under, clause_under-agree}

-- one substitution for the variables below n, another for those that were raised by n
abbrev pub mix : ℕ → Subst → Subst → Subst
mix n low high x = cond (nat_lt x n) (low x) (high (x - n))

mix-low : (n : ℕ) (low high : Subst) (x : ℕ) → x < n → mix n low high x ≡ low x
mix-low n low high x l = rw (lt-ltb x n l) refl

pub mix-high : (n : ℕ) (low high : Subst) → after (mix n low high) (moved n) ≡ high
mix-high n low high = fun_ext at where
  at : (x : ℕ) → mix n low high (x + n) ≡ high x
  at x = let over : n ≤ x + n = omega arith in let back : x + n - n ≡ x = omega arith in rw (le-ltb (x + n) n over) (ap high back)

-- the variables of a clause whose terms are below n are below n
pub below_variables : (n : ℕ) (c : Clause Term) → AreBelow n (all_terms c) → AllByRecursion (λ x. x < n) (clause_variables c)
below_variables n c below =
    all-flat_map (λ x. x < n) fact_variables (facts_of c)
    (all_weaker (λ f. AllByRecursion (IsBelow n) (terms_of f)) (λ f. AllByRecursion (λ x. x < n) (fact_variables f)) (λ f h. all-flat_map (λ x. x < n) leaves (terms_of f) h) (facts_of c)
    (all-from_flat_map (IsBelow n) terms_of (facts_of c) (all_first (IsBelow n) (clause_terms c) (map Leaf (constrained_variables c)) below)))

numbers_below : (n : ℕ) (xs : List ℕ) → AreBelow n (map Leaf xs) → AllByRecursion (λ x. x < n) xs
numbers_below n [] below = tt
numbers_below n (x ∷ xs) below = (below.0.0, numbers_below n xs below.1)

pub below_constrained : (n : ℕ) (c : Clause Term) → AreBelow n (all_terms c) → AllByRecursion (λ x. x < n) (constrained_variables c)
below_constrained n c below = numbers_below n (constrained_variables c) (all_second (IsBelow n) (clause_terms c) (map Leaf (constrained_variables c)) below)

pub mix-clause : (n : ℕ) (low high : Subst) (c : Clause Term) → AreBelow n (all_terms c) → clause_under (mix n low high) c ≡ clause_under low c
mix-clause n low high c below =
    let same = all_weaker (λ x. x < n) (λ x. mix n low high x ≡ low x) (mix-low n low high) in
    clause_under-agree (mix n low high) low c (same (clause_variables c) (below_variables n c below)) (same (constrained_variables c) (below_constrained n c below))

pub mix-fact_moved : (n : ℕ) (low high : Subst) (f : Fact Term) → fact_under (mix n low high) (fact_under (moved n) f) ≡ fact_under high f
mix-fact_moved n low high f = fact_under-fact_under (mix n low high) (moved n) f ∙ ap (λ s. fact_under s f) (mix-high n low high)

pub mix-facts_moved : (n : ℕ) (low high : Subst) (fs : List (Fact Term)) → map (fact_under (mix n low high)) (map (fact_under (moved n)) fs) ≡ map (fact_under high) fs
mix-facts_moved n low high fs = facts_under-facts_under (mix n low high) (moved n) fs ∙ ap (λ s. map (fact_under s) fs) (mix-high n low high)

pub mix-diffs_moved : (n : ℕ) (low high : Subst) (ds : List Diff) → map (diff_under (mix n low high)) (map (diff_under (moved n)) ds) ≡ map (diff_under high) ds
mix-diffs_moved n low high ds = diffs_under-diffs_under (mix n low high) (moved n) ds ∙ ap (λ s. map (diff_under s) ds) (mix-high n low high)

-- the flat under a substitution is the flat of what it makes of the facts
pub flat_under-map : (s : Subst) (fs : List (Fact Term)) → flat_map flat (map (fact_under s) fs) ≡ flat_under s fs
flat_under-map s fs = flat_map-map flat (fact_under s) fs
