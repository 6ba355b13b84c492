-- From raw clauses to the answer of a pair.
use Rattle.std.proofs.Common.{◌≡◌, ℕ, ◌<◌, ◌≤◌, Option, Some, Result, Ok, Err, IfOk, List, ◌++◌, length, map, flat_map, take, get_or, refl, ap, sym, ◌∙◌, subst, arith}
use Rattle.std.specs.declared.alloc.AllocError.{AllocError}
use Rattle.std.proofs.lemmas.List.{map-append}
use Rattle.spec_trees.specs.Tree.{after}
use Rattle.spec_terms.specs.Term.{Term, Subst}
use Rattle.spec_terms.specs.Unifier.{moved, IsMostGeneral}
use Rattle.spec_calculus.specs.Bounds.{most_symbols}
use Rattle.spec_clauses.specs.Fact.{Fact, Clause, terms_of, clause_size, fact_under, clause_under}
use Rattle.spec_clauses.specs.Variables.{IsBelow, AreBelow, all_terms}
use Rattle.spec_clauses.specs.Selection.{Selection}
use Rattle.spec_clauses.specs.Norm.{norms, IsNormal}
use Rattle.spec_clauses.specs.Limits.{IsWithinLimit}
use Rattle.spec_clauses.specs.Resolvents.{joined, IsRawResolvent}
use Rattle.spec_clauses.specs.Resolvents as answer
use Rattle.spec_clauses.proofs.Lists.{all_append, all_first, all_weaker}
use Rattle.spec_clauses.proofs.Facts.{fact_under-fact_under}
use Rattle.spec_clauses.proofs.NormNumbers.{norm-below}
use Rattle.spec_clauses.proofs.Answers.{no_unifier, large_answer, clauses_answer}
use Rattle.spec_derivations.specs.Choice.{at_place}
use Rattle.term_tree.specs.Bank.{Grows}
use Rattle.term_tree.specs.declared.bank.Id.{Id}
use Rattle.term_tree.proofs.BankLaws.{Grows_same, take-grows}
use Rattle.unify_match.specs.declared.bound.Bound.{Bound}
use Rattle.unify_match.specs.Seen.{IsReady}
use Rattle.clause_diffs.specs.Diffs.{DiffOf, diff_at, AreDiffLeavesBelow}
use Rattle.clause_diffs.proofs.Below.{diffs_below_more}
use Rattle.clause_diffs.proofs.Naming.{AreDiffsIn-append}
use Rattle.clause_form.specs.Facts.{fact_of}
use Rattle.clause_form.specs.Seen.{fact_at, clause_at, IsClauseIn, NamesClause, IdClause}
use Rattle.clause_form.specs.Fit.{HasLowVariables, IsFit}
use Rattle.clause_form.proofs.Flattening.{AreFactsIn-append}
use Rattle.clause_form.proofs.Copying.{NamesClause-grows}
use Rattle.clause_resolve.specs.declared.apart.Apart.{Apart}
use Rattle.clause_resolve.specs.declared.resolving.Resolved.{Resolved}
use Rattle.clause_resolve.specs.declared.resolving.Resolved.TheVariants.{NoUnifier, Large, Clauses}
use Rattle.clause_resolve.specs.Meeting.{IsMguOfFacts, HaveNoUnifier, NeverMeet}
use Rattle.clause_resolve.specs.Low.{bound_from, AreDiffsBelow, KeepsBelow}
use Rattle.clause_resolve.specs.Apart.{IsSelectedAt, IsHypothesisAt, IsApartOf}
use Rattle.clause_resolve.proofs.Low.{below_more, low_terms, unifier_keeps}
use Rattle.clause_resolve.proofs.Shifting.{placed, place_selected}
use Rattle.clause_resolve.proofs.SpendingLaws.{standing}
use Rattle.clause_resolve.specs.Joining.{together, IsFoundOf}
use Rattle.clause_resolve.specs.Answers.{GivesOf, IsAnswerFor, IsAnswerOf, IsAnswerAt}

-- a clause that is its own norm within the limit
pub normal_low : (c : Clause Term) → IsNormal c → IsWithinLimit c → AreBelow most_symbols (all_terms c)
normal_low c own small = all_weaker (IsBelow (clause_size c)) (IsBelow most_symbols) (λ t below. all_weaker (λ x. x < clause_size c) (λ x. x < most_symbols) (λ x h. omega arith) _ below) (all_terms c) (norm-below c c own.own)

-- one that is fit
pub fit_low : (all : List Term) (c : IdClause) → IsFit all c → HasLowVariables all c
fit_low all c fit = fit.low

-- the ids of both clauses together
pub together_known : (all : List Term) (solved rest : IdClause) → IsClauseIn all solved → IsClauseIn all rest → IsClauseIn all (together solved rest)
together_known all solved rest first second = record {
  hypotheses = AreFactsIn-append all solved.hypotheses rest.hypotheses first.hypotheses second.hypotheses;
  diffs = AreDiffsIn-append all solved.diffs rest.diffs first.diffs second.diffs;
  conclusion = second.conclusion;
}

-- and what they name
pub together_at : (all : List Term) (solved rest : IdClause) → clause_at all (together solved rest) ≡ together (clause_at all solved) (clause_at all rest)
together_at all solved rest =
    let hypotheses = map-append (fact_at all) solved.hypotheses rest.hypotheses in
    let diffs = map-append (diff_at all) solved.diffs rest.diffs in
    λ i. record { hypotheses = hypotheses i; diffs = diffs i; conclusion = fact_at all rest.conclusion }

pub together_is : {chosen : Option Selection} (all : List Term) (solved : IdClause) (unsolved : Clause Term) (apart : Apart) (a : IsApartOf chosen all unsolved apart) → clause_at all (together solved apart.rest) ≡ joined most_symbols (clause_at all solved) unsolved a.at
together_is all solved unsolved apart a = together_at all solved apart.rest ∙ ap (together (clause_at all solved)) a.rest.is

-- the constraints of a clause of low variables and of one that is set apart
pub pair_below : (all : List Term) (low raised made : List (DiffOf Id)) → AreDiffsBelow most_symbols all low → AreDiffsBelow bound_from all raised → made ≡ low ++ raised → AreDiffsBelow bound_from all made
pair_below all low raised made low_below raised_below e =
    let less : most_symbols ≤ bound_from = omega arith in
    subst (λ (ds : List (DiffOf Id)). AreDiffsBelow bound_from all ds) (sym e) (all_append (AreDiffLeavesBelow bound_from all) low raised (diffs_below_more most_symbols bound_from all low less low_below) raised_below)

pub other_pair_below : (all : List Term) (raised low made : List (DiffOf Id)) → AreDiffsBelow bound_from all raised → AreDiffsBelow most_symbols all low → made ≡ raised ++ low → AreDiffsBelow bound_from all made
other_pair_below all raised low made raised_below low_below e =
    let less : most_symbols ≤ bound_from = omega arith in
    subst (λ (ds : List (DiffOf Id)). AreDiffsBelow bound_from all ds) (sym e) (all_append (AreDiffLeavesBelow bound_from all) raised low raised_below (diffs_below_more most_symbols bound_from all low less low_below))

-- the unifier of their facts puts in variables of both alone
pub pair_keeps : (all : List Term) (pairs : List Bound) (k f : Fact Id) (c : IdClause) → k ≡ c.conclusion → IsReady all pairs → HasLowVariables all c → AreBelow bound_from (terms_of (fact_at all f)) → IsMguOfFacts (fact_at all k) (fact_at all f) (standing all pairs) → KeepsBelow bound_from (standing all pairs)
pair_keeps all pairs k f c k_is ready low raised mgu =
    let less : most_symbols ≤ bound_from = omega arith in
    let conclusion = all_first (IsBelow most_symbols) (terms_of (fact_at all c.conclusion)) (flat_map terms_of (map (fact_at all) c.hypotheses)) low.facts in
    let first = subst (λ (h : Fact Id). AreBelow most_symbols (terms_of (fact_at all h))) (sym k_is) conclusion in
    unifier_keeps all pairs (fact_at all k) (fact_at all f) ready (below_more most_symbols bound_from (terms_of (fact_at all k)) less first) raised mgu

pub other_pair_keeps : (all : List Term) (pairs : List Bound) (k f : Fact Id) (c : IdClause) → k ≡ c.conclusion → IsReady all pairs → AreBelow bound_from (terms_of (fact_at all c.conclusion)) → AreBelow most_symbols (terms_of (fact_at all f)) → IsMguOfFacts (fact_at all k) (fact_at all f) (standing all pairs)
    → KeepsBelow bound_from (standing all pairs)
other_pair_keeps all pairs k f c k_is ready raised low mgu =
    let less : most_symbols ≤ bound_from = omega arith in
    let first = subst (λ (h : Fact Id). AreBelow bound_from (terms_of (fact_at all h))) (sym k_is) raised in
    unifier_keeps all pairs (fact_at all k) (fact_at all f) ready first (below_more most_symbols bound_from (terms_of (fact_at all f)) less low) mgu

-- the facts that are unified are those of the pair
abbrev pub meet : List Term → IdClause → Apart → Subst → Type 0
meet all solved apart s = IsMguOfFacts (fact_at all solved.conclusion) (fact_at all (fact_of apart.selected)) s

raw_resolvent : {chosen : Option Selection} (all : List Term) (solved : IdClause) (unsolved : Clause Term) (apart : Apart) (s : Subst) (a : IsApartOf chosen all unsolved apart) → HasLowVariables all solved → meet all solved apart s
    → IsRawResolvent (clause_at all solved) unsolved a.at (Some (clause_under s (clause_at all (together solved apart.rest))))
raw_resolvent all solved unsolved apart s a low mgu = record {
  offset = most_symbols;
  apart = low_terms all solved low;
  unified = (
    s,
    subst (λ (f : Fact Term). IsMostGeneral (λ r. fact_under r (fact_at all solved.conclusion) ≡ fact_under r f) s) a.selected.is mgu,
    ap (clause_under s) (together_is all solved unsolved apart a),
  );
}

-- what was found of a raw resolvent of the pair is its answer
pub found_answers : {chosen : Option Selection} (new : List Term) (solved unsolved raw : Clause Term) (at : Selection) (found : Resolved) → chosen ≡ Some at → IsRawResolvent solved unsolved at (Some raw) → IsFoundOf new raw found → IsAnswerFor chosen new solved unsolved found
found_answers new solved unsolved raw at NoUnifier selected resolvent h = absurd h
found_answers new solved unsolved raw at Large selected resolvent h = record { at = at; is_selected = selected; gives = large_answer solved unsolved raw at resolvent h }
found_answers new solved unsolved raw at (Clauses cs) selected resolvent h = (norms raw, h.1, record { at = at; is_selected = selected; gives = clauses_answer solved unsolved raw at resolvent h.0 })

pub answered : {chosen : Option Selection} (old new : List Term) (solved together_made : IdClause) (unsolved : Clause Term) (apart : Apart) (s : Subst) (found : Resolved) → together_made ≡ together solved apart.rest → IsApartOf chosen old unsolved apart → HasLowVariables old solved → meet old solved apart s
    → IsFoundOf new (clause_under s (clause_at old together_made)) found → IsAnswerFor chosen new (clause_at old solved) unsolved found
answered old new solved together_made unsolved apart s found e a low mgu made =
    found_answers new (clause_at old solved) unsolved (clause_under s (clause_at old (together solved apart.rest))) a.at found a.is_selected (raw_resolvent old solved unsolved apart s a low mgu) (subst (λ (c : IdClause). IsFoundOf new (clause_under s (clause_at old c)) found) e made)

pub answered_result : {chosen : Option Selection} (old new : List Term) (solved together_made : IdClause) (k : Fact Id) (unsolved : Clause Term) (apart : Apart) (s : Subst) (r : Result Resolved AllocError) → k ≡ solved.conclusion → together_made ≡ together solved apart.rest → HasLowVariables old solved
    → IsMguOfFacts (fact_at old k) (fact_at old (fact_of apart.selected)) s → IfOk r (λ found. IsFoundOf new (clause_under s (clause_at old together_made)) found) → IsApartOf chosen old unsolved apart → IfOk r (λ found. IsAnswerFor chosen new (clause_at old solved) unsolved found)
answered_result old new solved together_made k unsolved apart s (Ok found) k_is e low mgu made a = answered old new solved together_made unsolved apart s found e a low (subst (λ (f : Fact Id). IsMguOfFacts (fact_at old f) (fact_at old (fact_of apart.selected)) s) k_is mgu) made
answered_result old new solved together_made k unsolved apart s (Err failed) k_is e low mgu made a = tt

-- nothing unifies them
pub unanswered : {chosen : Option Selection} (all : List Term) (solved : IdClause) (k : Fact Id) (unsolved : Clause Term) (apart : Apart) → k ≡ solved.conclusion → IsApartOf chosen all unsolved apart → HasLowVariables all solved → HaveNoUnifier (fact_at all k) (fact_at all (fact_of apart.selected)) → GivesOf chosen (clause_at all solved) unsolved answer.NoUnifier
unanswered all solved k unsolved apart k_is a low never = record {
  at = a.at;
  is_selected = a.is_selected;
  gives = no_unifier (clause_at all solved) unsolved a.at record {
    offset = most_symbols;
    apart = low_terms all solved low;
    unified = λ s e. never s (ap (λ f. fact_under s (fact_at all f)) k_is ∙ (e ∙ ap (fact_under s) (sym a.selected.is)));
  };
}

-- the conclusion and the hypothesis at a place that never meet
pub clashing : (solved unsolved : Clause Term) (at : ℕ) (k f : Fact Term) → k ≡ solved.conclusion → IsHypothesisAt unsolved at → AreBelow most_symbols (all_terms solved) → f ≡ get_or unsolved.hypotheses at f → NeverMeet k f → GivesOf (at_place unsolved.hypotheses at) solved unsolved answer.NoUnifier
clashing solved unsolved at k f k_is place low is never =
    let p = placed unsolved at place in
    let same : f ≡ p.selection.fact = is ∙ p.fact f in
    record {
      at = p.selection;
      is_selected = p.is_selected;
      gives = no_unifier solved unsolved p.selection record {
        offset = most_symbols;
        apart = low;
        unified = λ s e. never s (after s (moved most_symbols)) (ap (fact_under s) k_is ∙ (e ∙ (fact_under-fact_under s (moved most_symbols) p.selection.fact ∙ ap (fact_under (after s (moved most_symbols))) (sym same))));
      };
    }

-- where that one is selected, the answer there is the pair's
pub answer_selected : (all : List Term) (solved unsolved : Clause Term) (at : ℕ) (r : Result Resolved AllocError) → IsSelectedAt unsolved at → IfOk r (λ found. IsAnswerAt at all solved unsolved found) → IfOk r (λ found. IsAnswerOf all solved unsolved found)
answer_selected all solved unsolved at r selected answer =
    subst (λ (chosen : Option Selection). IfOk r (λ found. IsAnswerFor chosen all solved unsolved found)) (place_selected unsolved at selected).1 answer

-- a clause in a bank that grew
pub IsClauseIn-later : (a b : List Term) (c : IdClause) → Grows a b → IsClauseIn a c → IsClauseIn b c
IsClauseIn-later a b c grows known = let names : NamesClause b c (clause_at a c) = NamesClause-grows a b c (clause_at a c) grows record { known = known; is = refl } in names.known

pub clause_at-later : (a b : List Term) (c : IdClause) → Grows a b → IsClauseIn a c → clause_at b c ≡ clause_at a c
clause_at-later a b c grows known = let names : NamesClause b c (clause_at a c) = NamesClause-grows a b c (clause_at a c) grows record { known = known; is = refl } in names.is

-- a bank that grew and is taken back
pub as_before : (old now new : List Term) (n : ℕ) → Grows old now → n ≡ length old → new ≡ take n now → new ≡ old
as_before old now new n grows mark back = back ∙ (ap (λ k. take k now) mark ∙ take-grows old now grows)

pub taken_back : (old now new : List Term) (n : ℕ) → Grows old now → n ≡ length old → new ≡ take n now → Grows old new
taken_back old now new n grows mark back = Grows_same old new (as_before old now new n grows mark back)
