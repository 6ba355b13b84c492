-- The norm doesn't depend on how the bound variables of constraints are numbered, nor on constraints that repeat others.
use Rattle.std.proofs.Common.{◌≡◌, Bool, true, false, ◌&&◌, ◌||◌, cond, Some, None, List, [], ◌∷◌, map, refl, ap, sym, ◌∙◌}
use Rattle.std.specs.Prelude.{flat_map, filter_map}
use Rattle.std.specs.List.{list_all, cons_option}
use Rattle.std.proofs.lemmas.Simd.{map-map}
use Rattle.spec_terms.specs.Term.{Term, Subst}
use Rattle.spec_clauses.specs.Fact.{Fact, Clause, phase_of}
use Rattle.spec_clauses.specs.Variables.{clause_variables}
use Rattle.spec_clauses.specs.Diff.{Diff, diff_under, numbered_diff, same_diff}
use Rattle.spec_clauses.specs.DiffDecision.{is_never_met}
use Rattle.spec_clauses.specs.Norm.{distinct, numbering, without_repeats, is_tautology, without_lonely, is_anchored, is_needed, without_needless, is_void, is_general, everything_known, generalized, tidied, numbered_anew, norm, norms}
use Rattle.spec_clauses.specs.Flat.{flat}
use Rattle.spec_clauses.specs.Renaming.{DifferInBound}
use Rattle.spec_clauses.proofs.Lists.{all_each, any_same, filter_same, filter-map, map_same}
use Rattle.spec_clauses.proofs.Diffs.{same_diff-decides}
use Rattle.spec_clauses.proofs.DiffNumbering.{numbered-under, numbered-numbered, equality-numbered, never-numbered, own-numbered}
use Rattle.spec_clauses.proofs.Distinct.{any-distinct, filter-distinct, distinct-map_distinct}

pub is_void-tidied : (c : Clause Term) → is_void (tidied c) ≡ is_void c
is_void-tidied c = any-distinct same_diff same_diff-decides is_never_met (map numbered_diff c.diffs) ∙ any_same numbered_diff is_never_met is_never_met c.diffs (all_each (λ d. is_never_met (numbered_diff d) ≡ is_never_met d) never-numbered c.diffs)

is_needed-numbered : (c : Clause Term) (d : Diff) → is_needed c (numbered_diff d) ≡ is_needed c d
is_needed-numbered c d = λ i. equality-numbered d i && list_all (is_anchored c) (own-numbered d i)

pub without_needless-tidied : (c : Clause Term) → without_needless (tidied c) ≡ tidied (without_needless c)
without_needless-tidied c =
    let kept = filter-map numbered_diff (is_needed c) c.diffs ∙ ap (map numbered_diff) (filter_same (λ d. is_needed c (numbered_diff d)) (is_needed c) c.diffs (all_each (λ d. is_needed c (numbered_diff d) ≡ is_needed c d) (is_needed-numbered c) c.diffs)) in
    let diffs = filter-distinct same_diff same_diff-decides (is_needed c) (map numbered_diff c.diffs) ∙ ap (distinct same_diff) kept in
    λ i. record { hypotheses = c.hypotheses; diffs = diffs i; conclusion = c.conclusion }

pub generalized-tidied : (c : Clause Term) → generalized (tidied c) ≡ tidied (generalized c)
generalized-tidied c = go (is_general c) where
  go : (b : Bool) → cond b (everything_known (phase_of c.conclusion)) (tidied c) ≡ tidied (cond b (everything_known (phase_of c.conclusion)) c)
  go true = refl
  go false = refl

-- it makes no difference to the numbered constraint under a substitution whether the constraint is numbered first
numbered_again : (s : Subst) (d : Diff) → numbered_diff (diff_under s (numbered_diff d)) ≡ numbered_diff (diff_under s d)
numbered_again s d = numbered-under s (numbered_diff d) ∙ (ap (diff_under s) (numbered-numbered d) ∙ sym (numbered-under s d))

tidied_under : (s : Subst) (ds : List Diff) → distinct same_diff (map numbered_diff (map (diff_under s) (distinct same_diff (map numbered_diff ds)))) ≡ distinct same_diff (map numbered_diff (map (diff_under s) ds))
tidied_under s ds =
    let both = λ (d : Diff). numbered_diff (diff_under s d) in
    ap (distinct same_diff) (map-map numbered_diff (diff_under s) (distinct same_diff (map numbered_diff ds)))
    ∙ (distinct-map_distinct same_diff same_diff-decides both (map numbered_diff ds)
    ∙ ap (distinct same_diff) (map-map both numbered_diff ds ∙ (map_same (λ d. both (numbered_diff d)) both ds (all_each (λ d. both (numbered_diff d) ≡ both d) (numbered_again s) ds) ∙ sym (map-map numbered_diff (diff_under s) ds))))

pub numbered-tidied : (c : Clause Term) → numbered_anew (tidied c) ≡ numbered_anew c
numbered-tidied c =
    let d = numbered_anew c in
    λ i. record { hypotheses = d.hypotheses; diffs = tidied_under (numbering (clause_variables c)) c.diffs i; conclusion = d.conclusion }

pub norm-tidied : (c : Clause Term) → norm (tidied c) ≡ norm c
norm-tidied c =
    let kept = without_repeats (without_needless c) in
    let few = without_lonely kept in
    let made : numbered_anew (generalized (tidied few)) ≡ numbered_anew (generalized few) = ap numbered_anew (generalized-tidied few) ∙ numbered-tidied (generalized few) in
    ap (λ d. cond (is_void (tidied c) || is_tautology (without_repeats d)) None (Some (numbered_anew (generalized (without_lonely (without_repeats d)))))) (without_needless-tidied c)
    ∙ (λ i. cond (is_void-tidied c i || is_tautology kept) None (Some (made i)))

-- So clauses that differ in the numbers of bound variables alone have the same norm, and their flat parts have the same norms.
pub same_norm : (c d : Clause Term) → DifferInBound c d → norm c ≡ norm d
same_norm c d s = sym (norm-tidied c) ∙ (ap norm (λ i. record { hypotheses = s.hypotheses i; diffs = distinct same_diff (s.diffs i); conclusion = s.conclusion i }) ∙ norm-tidied d)

abbrev norms_of_parts : List (Fact Term) → List Diff → List (Fact Term) → List (Clause Term)
norms_of_parts hs ds fs = filter_map norm (map (λ f. record { hypotheses = hs; diffs = ds; conclusion = f }) fs)

same_parts : (hs : List (Fact Term)) (ds es : List Diff) (fs : List (Fact Term)) → map numbered_diff ds ≡ map numbered_diff es → norms_of_parts hs ds fs ≡ norms_of_parts hs es fs
same_parts hs ds es [] k = refl
same_parts hs ds es (f ∷ fs) k =
    let first = same_norm (record { hypotheses = hs; diffs = ds; conclusion = f }) (record { hypotheses = hs; diffs = es; conclusion = f }) (record { hypotheses = refl; diffs = k; conclusion = refl }) in
    let others = same_parts hs ds es fs k in λ i. cons_option (first i) (others i)

pub same_norms : (c d : Clause Term) → DifferInBound c d → norms c ≡ norms d
same_norms c d s = (λ i. norms_of_parts (flat_map flat (s.hypotheses i)) c.diffs (flat (s.conclusion i))) ∙ same_parts (flat_map flat d.hypotheses) c.diffs d.diffs (flat d.conclusion) s.diffs
