-- The numbers of a norm's variables are below its size; and clauses that are their own norms are told apart.
use Rattle.std.proofs.Common.{◌≡◌, ℕ, zero, suc, ◌+◌, ◌<◌, ◌≤◌, Bool, true, false, not, cond, nat_eq, Some, List, [], ◌∷◌, map, length, refl, ap, sym, ◌∙◌, inl, inr, eqb-true, arith}
use Rattle.std.specs.Prelude.{flat_map, filter}
use Rattle.std.specs.List.{AllByRecursion, list_any, range_with_len}
use Rattle.std.proofs.lemmas.List.{length-append}
use Rattle.spec_trees.specs.Tree.{Trees, Leaf, Node, none, more, size, sizes}
use Rattle.spec_trees.proofs.Occurrence.{or_true}
use Rattle.spec_terms.specs.Term.{Sym, Term}
use Rattle.spec_terms.proofs.Replace.{some_same}
use Rattle.spec_clauses.specs.Fact.{Fact, Att, Mess, Tab, Ev, Mev, Bad, Clause, facts_of, terms_of, clause_terms, total, fact_size, clause_size}
use Rattle.spec_clauses.specs.Variables.{leaves, row_leaves, fact_variables, clause_variables, constrained_variables, all_terms, IsBelow, AreBelow}
use Rattle.spec_clauses.specs.Norm.{distinct, norm}
use Rattle.spec_clauses.specs.Renaming.{AreVariants}
use Rattle.spec_clauses.proofs.Lists.{all_append, all_weaker, all-flat_map, all-from_flat_map}
use Rattle.spec_clauses.proofs.Variants.{variants_norm}
use Rattle.spec_clauses.proofs.Distinct.{nat_eq-decides, stand_all, stands_distinct}
use Rattle.spec_clauses.proofs.Anchors.{constrained_stand}
use Rattle.spec_clauses.proofs.Norm.{norm-norm, norm-variables}
use Rattle.spec_clauses.proofs.NormKeeps.{own_norm}

-- no more items pass a filter than there are, and none are added by leaving out repeats
pub length-filter_le : {X : Type 0} (test : X → Bool) (xs : List X) → length (filter test xs) ≤ length xs
length-filter_le test [] = omega arith
length-filter_le test (x ∷ xs) =
    let others = length-filter_le test xs in
    elim (test x) as (λ b. length (cond b (x ∷ filter test xs) (filter test xs)) ≤ suc (length xs)) [ true ↦ omega arith | false ↦ omega arith ]

pub length-distinct : {X : Type 0} (same : X → X → Bool) (xs : List X) → length (distinct same xs) ≤ length xs
length-distinct same [] = omega arith
length-distinct same (x ∷ xs) = omega (arith, length-filter_le (λ y. not (same x y)) (distinct same xs), length-distinct same xs)

-- as many variables as there are symbols and occurrences, at most
mutual
  length-leaves : (t : Term) → length (leaves t) ≤ size t
  length-leaves (Leaf x) = omega arith
  length-leaves (Node f args) = omega (arith, length-row_leaves args)

  length-row_leaves : (ts : Trees ℕ Sym) → length (row_leaves ts) ≤ sizes ts
  length-row_leaves none = omega arith
  length-row_leaves (more t ts) = omega (arith, length-leaves t, length-row_leaves ts, length-append (leaves t) (row_leaves ts))

pub length-terms : (ts : List Term) → length (flat_map leaves ts) ≤ total size ts
length-terms [] = omega arith
length-terms (t ∷ ts) = omega (arith, length-leaves t, length-terms ts, length-append (leaves t) (flat_map leaves ts))

length-fact : (h : Fact Term) → length (fact_variables h) ≤ fact_size h
length-fact (Att phase t) = omega (arith, length-terms (t ∷ []))
length-fact (Mess phase t u) = omega (arith, length-terms (t ∷ u ∷ []))
length-fact (Tab e ts) = omega (arith, length-terms ts)
length-fact (Ev e ts) = omega (arith, length-terms ts)
length-fact (Mev e ts) = omega (arith, length-terms ts)
length-fact (Bad ts) = omega (arith, length-terms ts)

pub length-facts : (hs : List (Fact Term)) → length (flat_map fact_variables hs) ≤ total fact_size hs
length-facts [] = omega arith
length-facts (h ∷ hs) = omega (arith, length-fact h, length-facts hs, length-append (fact_variables h) (flat_map fact_variables hs))

-- what stands among numbers from 0 on is below how many there are
in_range : (k n x : ℕ) → list_any (nat_eq x) (range_with_len k n) ≡ true → x < k + n
in_range k zero x e = cc
in_range k (suc n) x e = elim (or_true (nat_eq x k) (list_any (nat_eq x) (range_with_len (k + 1) n)) e) as (λ _. x < k + suc n) [
  | inl first ↦ (let same = eqb-true x k first in omega arith)
  | inr later ↦ (let below = in_range (k + 1) n x later in omega arith)
]

length-range : (k n : ℕ) → length (range_with_len k n) ≡ n
length-range k zero = refl
length-range k (suc n) = ap suc (length-range (k + 1) n)

all_leaves : (n : ℕ) (xs : List ℕ) → AllByRecursion (λ x. x < n) xs → AreBelow n (map Leaf xs)
all_leaves n [] a = tt
all_leaves n (x ∷ xs) a = ((a.0, tt), all_leaves n xs a.1)

-- each variable of a norm, of its constraints too, has a number below its size
pub norm-below : (c d : Clause Term) → norm c ≡ Some d → AreBelow (clause_size d) (all_terms d)
norm-below c d e =
    let numbers = norm-variables c d e in
    let n = numbers.0 in
    let xs = clause_variables d in
    let few : n ≤ clause_size d = omega (arith, length-range 0 n, ap length numbers.1, length-distinct nat_eq xs, length-facts (facts_of d)) in
    let small = all_weaker (λ x. list_any (nat_eq x) xs ≡ true) (λ x. x < clause_size d)
    (λ x stands. let least = in_range 0 n x (ap (list_any (nat_eq x)) (sym numbers.1) ∙ (stands_distinct nat_eq nat_eq-decides x xs ∙ stands)) in omega arith) in
    let facts = all-from_flat_map (λ x. x < clause_size d) fact_variables (facts_of d) (small xs (stand_all xs)) in
    let terms = all-flat_map (IsBelow (clause_size d)) terms_of (facts_of d) (all_weaker (λ h. AllByRecursion (λ x. x < clause_size d) (fact_variables h)) (λ h. AllByRecursion (IsBelow (clause_size d)) (terms_of h)) (λ h a. all-from_flat_map (λ x. x < clause_size d) leaves (terms_of h) a) (facts_of d) facts) in
    let needed = ((own_norm d).0 (norm-norm c d e)).none_needless in
    let constrained = all_leaves (clause_size d) (constrained_variables d) (small (constrained_variables d) (constrained_stand d needed)) in
    all_append (IsBelow (clause_size d)) (clause_terms d) (map Leaf (constrained_variables d)) terms constrained

-- clauses that are their own norms and instances of each other are the same
pub normal_variants : (c d : Clause Term) → norm c ≡ Some c → norm d ≡ Some d → AreVariants c d → c ≡ d
normal_variants c d first second v = some_same (sym first ∙ (variants_norm c d v ∙ second))
