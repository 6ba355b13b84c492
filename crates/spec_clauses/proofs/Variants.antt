-- Clauses that are instances of each other have the same norms, and are large alike.
use Rattle.std.proofs.Common.{◌≡◌, ℕ, not, ◌||◌, List, [], ◌∷◌, map, refl, ap, sym, ◌∙◌}
use Rattle.std.specs.Prelude.{flat_map, filter_map, nat_le}
use Rattle.std.specs.List.{AllByRecursion, list_any, cons_option}
use Rattle.spec_trees.specs.Tree.{Leaf, Node, bind, after}
use Rattle.spec_terms.specs.Term.{Term, Subst}
use Rattle.spec_calculus.specs.Bounds.{most_symbols}
use Rattle.spec_clauses.specs.Fact.{Fact, Clause, facts_of, clause_under, clause_size}
use Rattle.spec_clauses.specs.Variables.{fact_variables, clause_variables, constrained_variables}
use Rattle.spec_clauses.specs.Diff.{Diff, diff_variables}
use Rattle.spec_clauses.specs.Flat.{flat, flat_parts}
use Rattle.spec_clauses.specs.Norm.{norm, norms}
use Rattle.spec_clauses.specs.Limits.{is_large_clause, is_large_raw}
use Rattle.spec_clauses.specs.Renaming.{renaming, AreVariants}
use Rattle.spec_clauses.proofs.Lists.{all_weaker, all-flat_map, all-from_flat_map}
use Rattle.spec_clauses.proofs.Facts.{clause_under-clause_under, clause_under-agree, clause_under-fixed, constraints_under-fixed, clause_under-Leaf}
use Rattle.spec_clauses.proofs.Renaming.{IsLedBack}
use Rattle.spec_clauses.proofs.ClauseRenaming.{IsDiffLedBack, IsClauseLedBack, clause_size-renamed}
use Rattle.spec_clauses.proofs.Flat.{fact_variables-flat, flat_parts-renamed}
use Rattle.spec_clauses.proofs.NormRenaming.{norm-renamed}

-- The flat parts of a clause that is led back are led back.
module _ (q r : ℕ → ℕ) where
  flat-back : (h : Fact Term) → IsLedBack q r h → AllByRecursion (IsLedBack q r) (flat h)
  flat-back h a = all-from_flat_map (λ x. q (r x) ≡ x) fact_variables (flat h) (rw (fact_variables-flat h) a)

  flats-back : (hs : List (Fact Term)) → AllByRecursion (IsLedBack q r) hs → AllByRecursion (IsLedBack q r) (flat_map flat hs)
  flats-back hs a = all-flat_map (IsLedBack q r) flat hs (all_weaker (IsLedBack q r) (λ h. AllByRecursion (IsLedBack q r) (flat h)) flat-back hs a)

  parts_with-back : (hs : List (Fact Term)) (ds : List Diff) (fs : List (Fact Term)) → AllByRecursion (IsLedBack q r) hs → AllByRecursion (IsDiffLedBack q r) ds → AllByRecursion (IsLedBack q r) fs
      → AllByRecursion (IsClauseLedBack q r) (map (λ f. record { hypotheses = hs; diffs = ds; conclusion = f }) fs)
  parts_with-back hs ds [] a b e = tt
  parts_with-back hs ds (f ∷ fs) a b e = (record { facts = (e.0, a); diffs = b }, parts_with-back hs ds fs a b e.1)

  flat_parts-back : (c : Clause Term) → IsClauseLedBack q r c → AllByRecursion (IsClauseLedBack q r) (flat_parts c)
  flat_parts-back c a = parts_with-back (flat_map flat c.hypotheses) c.diffs (flat c.conclusion) (flats-back c.hypotheses a.facts.1) a.diffs (flat-back c.conclusion a.facts.0)

  norms_of-renamed : (cs : List (Clause Term)) → AllByRecursion (IsClauseLedBack q r) cs → filter_map norm (map (clause_under (renaming r)) cs) ≡ filter_map norm cs
  norms_of-renamed [] a = refl
  norms_of-renamed (c ∷ cs) a = let first = norm-renamed q r c a.0 in let others = norms_of-renamed cs a.1 in λ i. cons_option (first i) (others i)

  pub norms-renamed : (c : Clause Term) → IsClauseLedBack q r c → norms (clause_under (renaming r) c) ≡ norms c
  norms-renamed c a = ap (filter_map norm) (flat_parts-renamed r c) ∙ norms_of-renamed (flat_parts c) (flat_parts-back c a)

module _ (r : ℕ → ℕ) where
  large-renamed : (c : Clause Term) → is_large_clause (clause_under (renaming r) c) ≡ is_large_clause c
  large-renamed c = ap (λ n. not (nat_le n most_symbols)) (clause_size-renamed r c)

  any_large-renamed : (cs : List (Clause Term)) → list_any is_large_clause (map (clause_under (renaming r)) cs) ≡ list_any is_large_clause cs
  any_large-renamed [] = refl
  any_large-renamed (c ∷ cs) = let first = large-renamed c in let others = any_large-renamed cs in λ i. first i || others i

  pub is_large_raw-renamed : (c : Clause Term) → is_large_raw (clause_under (renaming r) c) ≡ is_large_raw c
  is_large_raw-renamed c =
      let whole = large-renamed c in
      let each = ap (list_any is_large_clause) (flat_parts-renamed r c) ∙ any_large-renamed (flat_parts c) in
      λ i. whole i || each i

-- the number of a variable
abbrev number_of : Term → ℕ
number_of (Leaf x) = x
number_of (Node f args) = 0

leaf_number : (q : Subst) (t : Term) (x : ℕ) → bind q t ≡ Leaf x → t ≡ Leaf (number_of t)
leaf_number q (Leaf y) x e = refl
leaf_number q (Node f args) x e = cc

-- A substitution that another leads back from is a renaming on the clause's variables.
pub record IsRenamed (c d : Clause Term) : Type 0 where
  pub back : ℕ → ℕ
  pub names : ℕ → ℕ
  pub is_back : IsClauseLedBack back names c
  pub is_renamed : d ≡ clause_under (renaming names) c

pub variants_are_renamed : (c d : Clause Term) → AreVariants c d → IsRenamed c d
variants_are_renamed c d v =
    let s = v.by in
    let t = v.back in
    let r = λ (x : ℕ). number_of (s x) in
    let q = λ (x : ℕ). number_of (t x) in
    let whole : clause_under (after t s) c ≡ c = sym (clause_under-clause_under t s c) ∙ (ap (clause_under t) v.there ∙ v.again) in
    let fixed : AllByRecursion (λ x. after t s x ≡ Leaf x) (clause_variables c) = clause_under-fixed (after t s) c whole in
    let constrained : AllByRecursion (λ x. after t s x ≡ Leaf x) (constrained_variables c) = constraints_under-fixed (after t s) c whole in
    let renames = all_weaker (λ x. after t s x ≡ Leaf x) (λ x. s x ≡ renaming r x) (λ x e. leaf_number t (s x) x e) in
    let returns = all_weaker (λ x. after t s x ≡ Leaf x) (λ x. q (r x) ≡ x) (λ x e. ap (λ u. number_of (bind t u)) (sym (leaf_number t (s x) x e)) ∙ ap number_of e) in
    record {
      back = q;
      names = r;
      is_back = record {
        facts = all-from_flat_map (λ x. q (r x) ≡ x) fact_variables (facts_of c) (returns (clause_variables c) fixed);
        diffs = all-from_flat_map (λ x. q (r x) ≡ x) diff_variables c.diffs (returns (constrained_variables c) constrained);
      };
      is_renamed = sym v.there ∙ clause_under-agree s (renaming r) c (renames (clause_variables c) fixed) (renames (constrained_variables c) constrained);
    }

pub variants_norm : (c d : Clause Term) → AreVariants c d → norm c ≡ norm d
variants_norm c d v = let n = variants_are_renamed c d v in sym (ap norm n.is_renamed ∙ norm-renamed n.back n.names c n.is_back)

pub variants_norms : (c d : Clause Term) → AreVariants c d → norms c ≡ norms d
variants_norms c d v = let n = variants_are_renamed c d v in sym (ap norms n.is_renamed ∙ norms-renamed n.back n.names c n.is_back)

pub variants_large : (c d : Clause Term) → AreVariants c d → is_large_raw c ≡ is_large_raw d
variants_large c d v = let n = variants_are_renamed c d v in sym (ap is_large_raw n.is_renamed ∙ is_large_raw-renamed n.names c)

pub variants_size : (c d : Clause Term) → AreVariants c d → clause_size c ≡ clause_size d
variants_size c d v = let n = variants_are_renamed c d v in sym (ap clause_size n.is_renamed ∙ clause_size-renamed n.names c)

-- Being instances of each other is an equivalence.
pub variants-refl : (c : Clause Term) → AreVariants c c
variants-refl c = record { by = Leaf; back = Leaf; there = clause_under-Leaf c; again = clause_under-Leaf c }

pub variants-sym : (c d : Clause Term) → AreVariants c d → AreVariants d c
variants-sym c d v = record { by = v.back; back = v.by; there = v.again; again = v.there }

pub variants-trans : (a b c : Clause Term) → AreVariants a b → AreVariants b c → AreVariants a c
variants-trans a b c v w = record {
  by = after w.by v.by;
  back = after v.back w.back;
  there = sym (clause_under-clause_under w.by v.by a) ∙ (ap (clause_under w.by) v.there ∙ w.there);
  again = sym (clause_under-clause_under v.back w.back c) ∙ (ap (clause_under v.back) w.again ∙ v.again);
}
