-- A pair of clauses with a selected hypothesis has one answer, whatever offset and most general unifier are taken.
use Rattle.std.proofs.Common.{◌≡◌, ℕ, suc, ◌+◌, ◌<◌, true, false, cond, List, [], ◌∷◌, ◌++◌, map, refl, sym, ap, ◌∙◌, arith}
use Rattle.std.specs.Prelude.{Option, Some, None, flat_map}
use Rattle.std.specs.List.{AllByRecursion}
use Rattle.std.proofs.lemmas.List.{map-append}
use Rattle.spec_trees.specs.Tree.{Leaf, after}
use Rattle.spec_terms.specs.Term.{Term, Subst}
use Rattle.spec_terms.specs.Unifier.{moved}
use Rattle.spec_clauses.specs.Fact.{Fact, Clause, fact_under, clause_under}
use Rattle.spec_clauses.specs.Variables.{leaves, all_terms, AreBelow}
use Rattle.spec_clauses.specs.Diff.{diff_under}
use Rattle.spec_clauses.specs.Selection.{Selection}
use Rattle.spec_clauses.specs.Renaming.{AreVariants}
use Rattle.spec_clauses.specs.Norm.{norms}
use Rattle.spec_clauses.specs.Limits.{is_large_raw}
use Rattle.spec_clauses.specs.Resolvents.{joined, IsRawResolvent, Answer, NoUnifier, Large, Resolvents, answer_of, Resolves}
use Rattle.spec_clauses.proofs.Lists.{all_weaker, all-from_flat_map}
use Rattle.spec_clauses.proofs.FactUnifiers.{facts_unified}
use Rattle.spec_clauses.proofs.Facts.{fact_under-fact_under, facts_under-facts_under, clause_under-clause_under, clause_under-Leaf}
use Rattle.spec_clauses.proofs.Apart.{mix, mix-clause, mix-fact_moved, mix-facts_moved, mix-diffs_moved}
use Rattle.spec_clauses.proofs.Diffs.{diffs_under-diffs_under}
use Rattle.spec_clauses.proofs.Unification.{Reaches, HaveSameInstances, AreAlike, one_unified}
use Rattle.spec_clauses.proofs.Variants.{variants_norms, variants_large}

-- the two facts to be unified, and the clause that the unifier makes the raw resolvent of
record Meeting : Type 0 where
  left : Fact Term
  right : Fact Term
  clause : Clause Term

abbrev meeting_under : Subst → Meeting → Meeting
meeting_under s m = record { left = fact_under s m.left; right = fact_under s m.right; clause = clause_under s m.clause }

meeting_under-meeting_under : (q s : Subst) (m : Meeting) → meeting_under q (meeting_under s m) ≡ meeting_under (after q s) m
meeting_under-meeting_under q s m = λ i. record { left = fact_under-fact_under q s m.left i; right = fact_under-fact_under q s m.right i; clause = clause_under-clause_under q s m.clause i }

abbrev Unified : Meeting → Type 0
Unified m = m.left ≡ m.right

abbrev meeting_at : ℕ → Clause Term → Clause Term → Selection → Meeting
meeting_at n solved unsolved at = record { left = solved.conclusion; right = fact_under (moved n) at.fact; clause = joined n solved unsolved at }

-- each instance over one offset is an instance over another
meetings_reach : (n m : ℕ) (solved unsolved : Clause Term) (at : Selection) → AreBelow n (all_terms solved) → Reaches meeting_under (meeting_at n solved unsolved at) (meeting_at m solved unsolved at)
meetings_reach n m solved unsolved at below u =
    let w = mix n u (after u (moved m)) in
    let low = mix-clause n u (after u (moved m)) solved below in
    let fact : (f : Fact Term) → fact_under w (fact_under (moved n) f) ≡ fact_under u (fact_under (moved m) f) =
    (λ f. mix-fact_moved n u (after u (moved m)) f ∙ sym (fact_under-fact_under u (moved m) f)) in
    let facts = mix-facts_moved n u (after u (moved m)) at.others ∙ sym (facts_under-facts_under u (moved m) at.others) in
    let first : map (fact_under w) (solved.hypotheses ++ map (fact_under (moved n)) at.others) ≡ map (fact_under w) solved.hypotheses ++ map (fact_under w) (map (fact_under (moved n)) at.others) =
    map-append (fact_under w) solved.hypotheses (map (fact_under (moved n)) at.others) in
    let second : map (fact_under u) (solved.hypotheses ++ map (fact_under (moved m)) at.others) ≡ map (fact_under u) solved.hypotheses ++ map (fact_under u) (map (fact_under (moved m)) at.others) =
    map-append (fact_under u) solved.hypotheses (map (fact_under (moved m)) at.others) in
    let hypotheses = first ∙ ((λ i. (low i).hypotheses ++ facts i) ∙ sym second) in
    let moved_diffs = mix-diffs_moved n u (after u (moved m)) unsolved.diffs ∙ sym (diffs_under-diffs_under u (moved m) unsolved.diffs) in
    let diffs = map-append (diff_under w) solved.diffs (map (diff_under (moved n)) unsolved.diffs) ∙ ((λ i. (low i).diffs ++ moved_diffs i) ∙ sym (map-append (diff_under u) solved.diffs (map (diff_under (moved m)) unsolved.diffs))) in
    (w, λ i. record { left = (low i).conclusion; right = fact at.fact i; clause = record { hypotheses = hypotheses i; diffs = diffs i; conclusion = fact unsolved.conclusion i } })

-- meetings with the same instances have clauses that are instances of each other
meetings_vary : (x y : Meeting) → HaveSameInstances meeting_under x y → AreVariants x.clause y.clause
meetings_vary x y same = record {
  by = (same.to Leaf).0;
  back = (same.from Leaf).0;
  there = ap (λ m. m.clause) (same.to Leaf).1 ∙ clause_under-Leaf y.clause;
  again = ap (λ m. m.clause) (same.from Leaf).1 ∙ clause_under-Leaf x.clause;
}

variants_resolved : (c d : Clause Term) → AreVariants c d → answer_of (Some c) ≡ answer_of (Some d)
variants_resolved c d v = let large = variants_large c d v in let same = variants_norms c d v in λ i. cond (large i) Large (Resolvents (same i))

alike_resolved : (o p : Option (Clause Term)) → AreAlike meeting_under (λ m. m.clause) o p → answer_of o ≡ answer_of p
alike_resolved None None a = refl
alike_resolved None (Some d) a = absurd a
alike_resolved (Some c) None a = absurd a
alike_resolved (Some c) (Some d) a = ap (λ e. answer_of (Some e)) a.2 ∙ (variants_resolved a.0.clause a.1.clause (meetings_vary a.0 a.1 a.4) ∙ sym (ap (λ e. answer_of (Some e)) a.3))

pub one_answer : (solved unsolved : Clause Term) (at : Selection) (a b : Answer) → Resolves solved unsolved at a → Resolves solved unsolved at b → a ≡ b
one_answer solved unsolved at a b first second =
    let n = first.1.offset in
    let m = second.1.offset in
    let same : HaveSameInstances meeting_under (meeting_at n solved unsolved at) (meeting_at m solved unsolved at) = record {
      to = meetings_reach n m solved unsolved at first.1.apart;
      from = meetings_reach m n solved unsolved at second.1.apart;
    } in
    first.2 ∙ (alike_resolved first.0 second.0 (one_unified meeting_under meeting_under-meeting_under Unified (λ u x e. ap (fact_under u) e) (λ x. x.clause) (meeting_at n solved unsolved at) (meeting_at m solved unsolved at) same first.0 second.0 first.1.unified second.1.unified) ∙ sym second.2)

-- a number above all of a list
above : (xs : List ℕ) → (n : ℕ) × AllByRecursion (λ x. x < n) xs
above [] = (0, tt)
above (x ∷ xs) =
    let (n, below) = above xs in
    (suc x + n, (omega arith, all_weaker (λ y. y < n) (λ y. y < suc x + n) (λ y l. omega arith) xs below))

-- numbers set the variables of any clause apart
pub an_offset : (c : Clause Term) → (n : ℕ) × AreBelow n (all_terms c)
an_offset c = let (n, below) = above (flat_map leaves (all_terms c)) in (n, all-from_flat_map (λ x. x < n) leaves (all_terms c) below)

pub an_answer : (solved unsolved : Clause Term) (at : Selection) → (answer : Answer) × Resolves solved unsolved at answer
an_answer solved unsolved at =
    let (n, apart) = an_offset solved in
    let (raw, unified) = facts_unified solved.conclusion (fact_under (moved n) at.fact) (λ s. clause_under s (joined n solved unsolved at)) in
    (answer_of raw, (raw, record { offset = n; apart = apart; unified = unified }, refl))

-- which answer it is
pub no_unifier : (solved unsolved : Clause Term) (at : Selection) → IsRawResolvent solved unsolved at None → Resolves solved unsolved at NoUnifier
no_unifier solved unsolved at h = (None, h, refl)

pub large_answer : (solved unsolved raw : Clause Term) (at : Selection) → IsRawResolvent solved unsolved at (Some raw) → is_large_raw raw ≡ true → Resolves solved unsolved at Large
large_answer solved unsolved raw at h large = (Some raw, h, rw large refl)

pub clauses_answer : (solved unsolved raw : Clause Term) (at : Selection) → IsRawResolvent solved unsolved at (Some raw) → is_large_raw raw ≡ false → Resolves solved unsolved at (Resolvents (norms raw))
clauses_answer solved unsolved raw at h small = (Some raw, h, rw small refl)
