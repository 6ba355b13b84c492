-- Clauses with their variables numbered, by their names over ids: what they are, that the variables that their constraints bind come
-- right after those of their facts, and that all of these are low where the clause is within the limit of size.
use Rattle.std.proofs.Common.{◌≡◌, ℕ, ◌<◌, true, Option, None, Some, nat_eq, Result, Ok, Err, IfOk, List, length, map, refl, ap, sym, ◌∙◌, subst, arith}
use Rattle.std.specs.declared.alloc.AllocError.{AllocError}
use Rattle.std.specs.List.{AllByRecursion, list_any}
use Rattle.std.proofs.lemmas.List.{length-map}
use Rattle.std.proofs.lemmas.Simd.{map-map}
use Rattle.spec_calculus.specs.Bounds.{most_symbols}
use Rattle.spec_trees.specs.Tree.{Leaf}
use Rattle.spec_terms.specs.Term.{Term}
use Rattle.spec_clauses.specs.Diff.{diff_under, numbered_diff, same_diff}
use Rattle.spec_clauses.specs.Fact.{Fact, Clause, facts_of, fact_under, clause_size, clause_terms}
use Rattle.spec_clauses.specs.Limits.{IsWithinLimit}
use Rattle.spec_clauses.specs.Variables.{leaves, clause_variables, constrained_variables, IsBelow}
use Rattle.spec_clauses.specs.Norm.{distinct, numbering, numbered_anew, norm}
use Rattle.spec_clauses.proofs.Distinct.{nat_eq-decides, stands_distinct, at_places}
use Rattle.spec_clauses.proofs.Lists.{all_first, all_weaker}
use Rattle.spec_clauses.proofs.Norm.{names_of, back_of, norm-norm}
use Rattle.spec_clauses.proofs.NormKeeps.{normal-numbered}
use Rattle.spec_clauses.proofs.NormNumbers.{norm-below, length-distinct, length-facts}
use Rattle.spec_clauses.proofs.Renaming.{clause_variables-renamed, variables_distinct-renamed}
use Rattle.term_tree.specs.Bank.{Grows}
use Rattle.term_tree.specs.declared.bank.Id.{Id}
use Rattle.term_tree.proofs.BankLaws.{Grows_refl}
use Rattle.clause_diffs.specs.Diffs.{DiffOf, diffs_at, NameDiffs, StartAt}
use Rattle.clause_diffs.specs.Numbers.{placed}
use Rattle.clause_diffs.proofs.Low.{low_diffs}
use Rattle.clause_diffs.proofs.Naming.{NameDiffs-grows}
use Rattle.clause_form.specs.declared.normal.Normal.{Normal}
use Rattle.clause_form.specs.declared.normal.Normal.TheVariants as variants
use Rattle.clause_form.specs.Fit.{HasLowVariables}
use Rattle.clause_form.specs.Normals.{NamesNorm, IfClause, AreOwn, BindAfter}
use Rattle.clause_form.specs.Seen.{fact_at, clause_at, IsFactIn, AreFactsIn, NamesFact, NameFacts, NamesClause, IdClause}
use Rattle.clause_form.proofs.Copying.{fact_at-grows, facts_at-grow, clause_named}
use Rattle.clause_form.proofs.Flattening.{clause_with}

-- variables that stand in the facts stand in their order
pub own_ordered : (c : Clause Term) (order : List ℕ) → order ≡ distinct nat_eq (clause_variables c) → AreOwn c → AllByRecursion (λ x. list_any (nat_eq x) order ≡ true) (constrained_variables c)
own_ordered c order is own =
    let vs = clause_variables c in
    all_weaker (λ x. list_any (nat_eq x) vs ≡ true) (λ x. list_any (nat_eq x) order ≡ true) (λ x stands. ap (list_any (nat_eq x)) is ∙ (stands_distinct nat_eq nat_eq-decides x vs ∙ stands)) (constrained_variables c) own

-- the facts renumbered one after the other, with constraints that are as they are to be
pub in_order_named : (old now next : List Term) (hyps : List (Fact Id)) (diffs : List (DiffOf Id)) (concl : Fact Id) (order : List ℕ) (made : List (Fact Id)) (last : Fact Id) → IsFactIn old concl → NameDiffs old diffs (diffs_at old diffs) → Grows old now → Grows now next
    → NameFacts now made (map (fact_under (placed order)) (map (fact_at old) hyps)) → NamesFact next last (fact_under (placed order) (fact_at now concl))
    → NamesClause next (clause_with made diffs last) (clause_with (map (fact_under (placed order)) (map (fact_at old) hyps)) (diffs_at old diffs) (fact_under (placed order) (fact_at old concl)))
in_order_named old now next hyps diffs concl order made last known diffs_named to_now to_next hyps_named concl_named =
    let plain : Clause Term = clause_with (map (fact_under (placed order)) (map (fact_at old) hyps)) (diffs_at old diffs) (fact_under (placed order) (fact_at old concl)) in
    clause_named now now next made diffs last (map (fact_under (placed order)) (map (fact_at old) hyps)) (diffs_at old diffs) plain (Grows_refl now) to_next hyps_named refl
    (NameDiffs-grows old now diffs (diffs_at old diffs) to_now diffs_named) refl (subst (λ (f : Fact Term). NamesFact next last f) (ap (fact_under (placed order)) (fact_at-grows old now concl to_now known)) concl_named)

-- so they are the clause with its variables numbered
pub numbered_is : (old mid : List Term) (hyps : List (Fact Id)) (diffs tidy : List (DiffOf Id)) (concl : Fact Id) (order : List ℕ) → AreFactsIn old hyps → IsFactIn old concl → Grows old mid → order ≡ distinct nat_eq (clause_variables (clause_at old (clause_with hyps diffs concl)))
    → NameDiffs mid tidy (distinct same_diff (map (λ d. numbered_diff (diff_under (placed order) d)) (diffs_at old diffs)))
    → clause_with (map (fact_under (placed order)) (map (fact_at mid) hyps)) (diffs_at mid tidy) (fact_under (placed order) (fact_at mid concl)) ≡ numbered_anew (clause_at old (clause_with hyps diffs concl))
numbered_is old mid hyps diffs tidy concl order hyps_known concl_known grows is named =
    let vs = clause_variables (clause_at old (clause_with hyps diffs concl)) in
    let same_hyps = facts_at-grow old mid hyps grows hyps_known in
    let same_concl = fact_at-grows old mid concl grows concl_known in
    let diffs_are : diffs_at mid tidy ≡ distinct same_diff (map numbered_diff (map (diff_under (numbering vs)) (diffs_at old diffs))) =
    (named.are ∙ (ap (λ o. distinct same_diff (map (λ d. numbered_diff (diff_under (placed o) d)) (diffs_at old diffs))) is ∙ ap (distinct same_diff) (sym (map-map numbered_diff (diff_under (numbering vs)) (diffs_at old diffs))))) in
    λ i. record { hypotheses = map (fact_under (placed (is i))) (same_hyps i); diffs = diffs_are i; conclusion = fact_under (placed (is i)) (same_concl i) }

-- the bound variables come after those of the facts, whose count the numbering doesn't change
pub bound_after : (new : List Term) (c : Clause Term) (order : List ℕ) (tidy : List (DiffOf Id)) (r : Result IdClause AllocError) → order ≡ distinct nat_eq (clause_variables c) → StartAt (length order) tidy → IfOk r (λ (made : IdClause). made.diffs ≡ tidy)
    → IfOk r (λ made. NamesClause new made (numbered_anew c)) → IfOk r (λ made. BindAfter new made)
bound_after new c order tidy (Ok made) is start same names =
    let vs = clause_variables c in
    let numbers : distinct nat_eq (clause_variables (clause_at new made)) ≡ map (names_of c) (distinct nat_eq vs) =
    (ap (λ d. distinct nat_eq (clause_variables d)) names.is ∙ (ap (distinct nat_eq) (clause_variables-renamed (names_of c) c) ∙ variables_distinct-renamed (back_of c) (names_of c) vs (at_places vs))) in
    let count : length order ≡ length (distinct nat_eq (clause_variables (clause_at new made))) = ap length is ∙ sym (ap length numbers ∙ length-map (distinct nat_eq vs) (names_of c)) in
    subst (λ (n : ℕ). StartAt n made.diffs) count (subst (StartAt (length order)) (sym same) start)
bound_after new c order tidy (Err failed) is start same names = tt

-- A norm within the limit has low variables.
low_made : (all : List Term) (made : IdClause) (c : Clause Term) → norm c ≡ Some (clause_at all made) → BindAfter all made → IsWithinLimit (clause_at all made) → HasLowVariables all made
low_made all made c e first small =
    let t = clause_at all made in
    let below = all_first (IsBelow (clause_size t)) (clause_terms t) (map Leaf (constrained_variables t)) (norm-below c t e) in
    record {
      facts = all_weaker (IsBelow (clause_size t)) (IsBelow most_symbols) (λ u under. all_weaker (λ x. x < clause_size t) (λ x. x < most_symbols) (λ x h. omega arith) (leaves u) under) (clause_terms t) below;
      diffs = low_diffs all made.diffs (length (distinct nat_eq (clause_variables t))) most_symbols first (normal-numbered t (norm-norm c t e)) (omega (arith, length-distinct nat_eq (clause_variables t), length-facts (facts_of t), small));
    }

pub norm_low : (all : List Term) (r : Result Normal AllocError) (c : Clause Term) → IfOk r (λ made. NamesNorm all made (norm c)) → IfOk r (λ made. IfClause made (BindAfter all))
    → IfOk r (λ normal. IfClause normal (λ made. IsWithinLimit (clause_at all made) → HasLowVariables all made))
norm_low all (Ok variants.Tautology) c names first = tt
norm_low all (Ok (variants.Clause made)) c names first = go (norm c) refl names where
  go : (o : Option (Clause Term)) → norm c ≡ o → NamesNorm all (variants.Clause made) o → IsWithinLimit (clause_at all made) → HasLowVariables all made
  go None e named = absurd named
  go (Some t) e named = low_made all made c (e ∙ ap Some (sym named.is)) first
norm_low all (Err failed) c names first = tt
