-- The laws of norm: it is its own norm, keeps what is flat, never grows, and numbers variables from 0 on.
use Rattle.std.proofs.Common.{◌≡◌, ℕ, Bool, true, false, not, cond, ◌||◌, nat_eq, Some, None, List, [], ◌∷◌, length, get_or, refl, ap, sym, ◌∙◌}
use Rattle.std.specs.Prelude.{filter}
use Rattle.std.specs.List.{IsDistinct, list_any, range_with_len}
use Rattle.spec_trees.specs.Tree.{Leaf, after}
use Rattle.spec_trees.proofs.Occurrence.{or_false}
use Rattle.spec_terms.specs.Term.{Term}
use Rattle.spec_clauses.specs.Fact.{Fact, Clause, facts_of, clause_under, same_fact, is_among, phase_of}
use Rattle.spec_clauses.specs.Diff.{Diff, diff_variables}
use Rattle.spec_clauses.specs.DiffDecision.{is_never_met}
use Rattle.spec_clauses.specs.Variables.{fact_variables, clause_variables, constrained_variables}
use Rattle.spec_clauses.specs.Norm.{distinct, place_of, without_repeats, is_tautology, elsewhere, is_lonely, without_lonely, is_needed, without_needless, is_void, is_general, everything_known, generalized, numbered_anew, norm}
use Rattle.spec_clauses.specs.Renaming.{renaming}
use Rattle.spec_clauses.proofs.Lists.{all_weaker, all-from_flat_map}
use Rattle.spec_clauses.proofs.Facts.{clause_under-clause_under, clause_under-agree, clause_under-Leaf}
use Rattle.spec_clauses.proofs.Renaming.{clause_variables-renamed, variables_distinct-renamed}
use Rattle.spec_clauses.proofs.ClauseRenaming.{IsClauseLedBack, constrained_back}
use Rattle.spec_clauses.proofs.Anchors.{elsewhere-left, few-needed, constrained_stand}
use Rattle.spec_clauses.proofs.NormTidied.{norm-tidied}
use Rattle.spec_clauses.proofs.NormRenaming.{norm-renamed}
use Rattle.spec_clauses.proofs.Distinct.{all-filter_passes, filter-all, distinct-filter, distinct-distinct, distinct-fixed, number_back, at_places, places_of_distinct}

-- the clause without needless constraints, repeats and lonely hypotheses
abbrev pub few : Clause Term → Clause Term
few c = without_lonely (without_repeats (without_needless c))

-- the clause before its variables are numbered
abbrev pub simplified : Clause Term → Clause Term
simplified c = generalized (few c)

-- whether the clause says nothing
abbrev pub says_nothing : Clause Term → Bool
says_nothing c = is_void c || is_tautology (without_repeats (without_needless c))

pub norm_made : (c d : Clause Term) → norm c ≡ Some d → (says_nothing c ≡ false) × (d ≡ numbered_anew (simplified c))
norm_made c d e = go (says_nothing c) refl e where
  go : (b : Bool) → says_nothing c ≡ b → cond b None (Some (numbered_anew (simplified c))) ≡ Some d → (says_nothing c ≡ false) × (d ≡ numbered_anew (simplified c))
  go true k e = cc
  go false k e = (k, cc)

without_lonely-fixed : (c : Clause Term) → without_lonely (without_lonely c) ≡ without_lonely c
without_lonely-fixed c =
    let rest = without_lonely c in
    let same = ap (λ vs. filter (λ h. not (is_lonely vs h)) rest.hypotheses) (elsewhere-left c) in
    let kept = filter-all (λ h. not (is_lonely (elsewhere c) h)) rest.hypotheses (all-filter_passes (λ h. not (is_lonely (elsewhere c) h)) c.hypotheses) in
    λ i. record { hypotheses = (same ∙ kept) i; diffs = c.diffs; conclusion = c.conclusion }

pub is_among-filter : (test : Fact Term → Bool) (hs : List (Fact Term)) (f : Fact Term) → is_among hs f ≡ false → is_among (filter test hs) f ≡ false
is_among-filter test [] f e = refl
is_among-filter test (h ∷ hs) f e =
    let parts = or_false (same_fact f h) (is_among hs f) e in
    let others = is_among-filter test hs f parts.1 in
    elim (test h) as (λ b. is_among (cond b (h ∷ filter test hs) (filter test hs)) f ≡ false) [
      | true ↦ (let here = parts.0 in cc)
      | false ↦ others
    ]

any_left : (test : Diff → Bool) (needed : Diff → Bool) (ds : List Diff) → list_any test ds ≡ false → list_any test (filter needed ds) ≡ false
any_left test needed [] e = refl
any_left test needed (d ∷ ds) e =
    let parts = or_false (test d) (list_any test ds) e in
    let others = any_left test needed ds parts.1 in
    elim (needed d) as (λ b. list_any test (cond b (d ∷ filter needed ds) (filter needed ds)) ≡ false) [
      | true ↦ (let here = parts.0 in cc)
      | false ↦ others
    ]

-- What is simplified stays as it is under each rule but the last.
pub record IsSimple (e : Clause Term) : Type 0 where
  pub none_void : is_void e ≡ false
  pub none_needless : without_needless e ≡ e
  pub distinct : IsDistinct same_fact e.hypotheses
  pub says : is_among e.hypotheses e.conclusion ≡ false
  pub none_lonely : without_lonely e ≡ e
  pub general : generalized e ≡ e

pub simplified-simple : (c : Clause Term) → says_nothing c ≡ false → IsSimple (simplified c)
unfolding IsDistinct
simplified-simple c says = go (is_general (few c)) refl (or_false (is_void c) (is_tautology kept) says) where
  kept : Clause Term
  kept = without_repeats (without_needless c)

  go : (b : Bool) → is_general (few c) ≡ b → (is_void c ≡ false) × (is_tautology kept ≡ false) → IsSimple (cond b (everything_known (phase_of c.conclusion)) (few c))
  go true e k = record { none_void = refl; none_needless = refl; distinct = tt; says = refl; none_lonely = refl; general = refl }
  go false e k = record {
    none_void = any_left is_never_met (is_needed c) c.diffs k.0;
    none_needless = few-needed c;
    distinct = distinct-filter same_fact (λ h. not (is_lonely (elsewhere kept) h)) kept.hypotheses (distinct-distinct same_fact c.hypotheses);
    says = is_among-filter (λ h. not (is_lonely (elsewhere kept) h)) kept.hypotheses kept.conclusion k.1;
    none_lonely = without_lonely-fixed kept;
    general = ap (λ b. cond b (everything_known (phase_of c.conclusion)) (few c)) e;
  }

-- So its norm is itself, numbered.
pub norm-simple : (e : Clause Term) → IsSimple e → norm e ≡ Some (numbered_anew e)
norm-simple e s =
    let once : without_repeats e ≡ e = λ i. record { hypotheses = distinct-fixed same_fact e.hypotheses s.distinct i; diffs = e.diffs; conclusion = e.conclusion } in
    ap (λ d. cond (is_void e || is_tautology (without_repeats d)) None (Some (numbered_anew (generalized (without_lonely (without_repeats d)))))) s.none_needless
    ∙ (ap (λ d. cond (is_void e || is_tautology d) None (Some (numbered_anew (generalized (without_lonely d))))) once
    ∙ ((λ i. cond (s.none_void i || s.says i) None (Some (numbered_anew (generalized (without_lonely e)))))
    ∙ (ap (λ d. Some (numbered_anew (generalized d))) s.none_lonely ∙ ap (λ d. Some (numbered_anew d)) s.general)))

-- the names that numbering gives, and the way back
abbrev pub names_of : Clause Term → ℕ → ℕ
names_of e x = place_of x (distinct nat_eq (clause_variables e))

abbrev pub back_of : Clause Term → ℕ → ℕ
back_of e i = get_or (distinct nat_eq (clause_variables e)) i 0

-- The names lead back where no constraint is needless, and so the clause with its new names has the norm that it had, and has it
-- with its bound variables numbered.
pub names-back : (e : Clause Term) → without_needless e ≡ e → IsClauseLedBack (back_of e) (names_of e) e
names-back e needed = record {
  facts = all-from_flat_map (λ x. back_of e (names_of e x) ≡ x) fact_variables (facts_of e) (at_places (clause_variables e));
  diffs = all-from_flat_map (λ x. back_of e (names_of e x) ≡ x) diff_variables e.diffs (all_weaker (λ x. list_any (nat_eq x) (clause_variables e) ≡ true) (λ x. back_of e (names_of e x) ≡ x) (number_back (clause_variables e)) (constrained_variables e) (constrained_stand e needed));
}

pub renamed-back : (e : Clause Term) → without_needless e ≡ e → clause_under (renaming (back_of e)) (clause_under (renaming (names_of e)) e) ≡ e
renamed-back e needed =
    let q = back_of e in
    let r = names_of e in
    let undone = all_weaker (λ x. q (r x) ≡ x) (λ x. after (renaming q) (renaming r) x ≡ Leaf x) (λ x k. ap Leaf k) in
    clause_under-clause_under (renaming q) (renaming r) e
    ∙ (clause_under-agree (after (renaming q) (renaming r)) Leaf e (undone (clause_variables e) (at_places (clause_variables e))) (undone (constrained_variables e) (constrained_back q r e (names-back e needed)))
    ∙ clause_under-Leaf e)

pub norm-numbered : (e : Clause Term) → without_needless e ≡ e → norm (numbered_anew e) ≡ norm e
norm-numbered e needed = norm-tidied (clause_under (renaming (names_of e)) e) ∙ norm-renamed (back_of e) (names_of e) e (names-back e needed)

-- the norm is its own norm
pub norm-norm : (c d : Clause Term) → norm c ≡ Some d → norm d ≡ Some d
norm-norm c d e =
    let made = norm_made c d e in
    let plain = simplified c in
    let simple = simplified-simple c made.0 in
    ap norm made.1 ∙ (norm-numbered plain simple.none_needless ∙ (norm-simple plain simple ∙ ap Some (sym made.1)))

-- its variables are numbered from 0 on, by their first occurrence
pub norm-variables : (c d : Clause Term) → norm c ≡ Some d → (n : ℕ) × (distinct nat_eq (clause_variables d) ≡ range_with_len 0 n)
norm-variables c d e =
    let made = norm_made c d e in
    let plain = simplified c in
    let vs = clause_variables plain in
    let ds = distinct nat_eq vs in
    let numbers = variables_distinct-renamed (back_of plain) (names_of plain) vs (at_places vs) in
    (length ds, ap (λ f. distinct nat_eq (clause_variables f)) made.1 ∙ (ap (distinct nat_eq) (clause_variables-renamed (names_of plain) plain) ∙ (numbers ∙ places_of_distinct ds (distinct-distinct nat_eq vs))))
