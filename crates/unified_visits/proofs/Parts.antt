-- The parts of visits under bindings, over a bank that grows.
use Rattle.std.proofs.Common.{◌≡◌, ℕ, ◌<◌, true, Option, None, List, [], ◌∷◌, length, map, refl, ap, sym, subst, ◌∙◌, arith}
use Rattle.std.proofs.lemmas.List.{length-map}
use Rattle.std.specs.Prelude.{MatchOption, flat_map}
use Rattle.std.specs.List.{AllByRecursion}
use Rattle.spec_trees.specs.Tree.{bind}
use Rattle.spec_calculus.specs.Bounds.{most_symbols}
use Rattle.spec_terms.specs.Term.{Term, Subst}
use Rattle.spec_terms.specs.Binding.{resolved}
use Rattle.spec_clauses.specs.Diff.{Diff, diff_variables, numbered_diff, diff_under}
use Rattle.spec_clauses.specs.Fact.{Fact, fact_under}
use Rattle.spec_clauses.proofs.DiffNumbering.{numbered-under, own-numbered}
use Rattle.spec_clauses.proofs.Lists.{all_first, all_second}
use Rattle.spec_translation.specs.Visit.{standing_under, visit_under, is_large_visit}
use Rattle.term_tree.specs.Bank.{tree_at, AreKnown, Grows}
use Rattle.term_tree.specs.declared.bank.Id.{Id}
use Rattle.term_tree.proofs.BankLaws.{trees_at-grow}
use Rattle.unify_match.specs.declared.bound.Bound.{Bound}
use Rattle.unify_match.specs.Seen.{seen, IsReady}
use Rattle.unify_match.proofs.SeenLemmas.{seen-grows}
use Rattle.clause_diffs.specs.Diffs.{DiffOf, diffs_at, AreDiffsIn, NameDiffs}
use Rattle.clause_diffs.proofs.Naming.{diffs_at-grow}
use Rattle.clause_form.specs.Seen.{fact_at, AreFactsIn, NameTerms, NameFacts}
use Rattle.clause_form.proofs.Copying.{facts_at-grow}
use Rattle.clause_terms.specs.Scopes.{Held, scope_at}
use Rattle.unified_visits.specs.declared.visit.Visit as source
use Rattle.unified_visits.specs.Sizes.{some_standing_over, some_fact_over}
use Rattle.unified_visits.specs.Solving.{HasBelow, NamesKnown}
use Rattle.unified_visits.specs.Lifting.{IsOwnBelow}
use Rattle.unified_visits.specs.Visits.{visit_at, IsVisitIn, NamesVisit}
use Rattle.unified_visits.proofs.Scopes.{NamesScope-grows}
use Rattle.unified_visits.proofs.Named.{Below, parted, visit_named}
use Rattle.unified_visits.proofs.Standing.{scope_large, hypotheses_large, leaves_were, visit_below}

-- the scope is over, or named
pub scope_is_over : (old : List Term) (s : Subst) (v : source.Visit) (held : List Held) (X : Type 0) (found : Option X) (B : X → Type 0) → held ≡ v.scope → found ≡ None
    → MatchOption found (some_standing_over most_symbols (map (standing_under s) (scope_at old held)) ≡ true) B → is_large_visit (visit_under s (visit_at old v)) ≡ true
scope_is_over old s v held X found B e none h =
    let over = subst (λ o. MatchOption o (some_standing_over most_symbols (map (standing_under s) (scope_at old held)) ≡ true) B) none h in
    scope_large (visit_under s (visit_at old v)) (subst (λ (l : List Held). some_standing_over most_symbols (map (standing_under s) (scope_at old l)) ≡ true) e over)

module _ (old mid : List Term) (pairs : List Bound) (grows : Grows old mid) (ready : IsReady old pairs) where
  pub same_substitution : resolved (seen mid pairs) ≡ resolved (seen old pairs)
  same_substitution = ap resolved (seen-grows old mid pairs grows ready.known)

  pub facts_same : (fs : List (Fact Id)) → AreFactsIn old fs → map (fact_under (resolved (seen mid pairs))) (map (fact_at mid) fs) ≡ map (fact_under (resolved (seen old pairs))) (map (fact_at old) fs)
  facts_same fs known = let bindings = same_substitution in let facts = facts_at-grow old mid fs grows known in λ i. map (fact_under (bindings i)) (facts i)

  pub terms_same : (ids : List Id) → AreKnown old ids → map (bind (resolved (seen mid pairs))) (map (tree_at mid) ids) ≡ map (bind (resolved (seen old pairs))) (map (tree_at old) ids)
  terms_same ids known = let bindings = same_substitution in let terms = trees_at-grow old mid ids grows known in λ i. map (bind (bindings i)) (terms i)

  pub diffs_same : (ds : List (DiffOf Id)) → AreDiffsIn old ds → map (diff_under (resolved (seen mid pairs))) (diffs_at mid ds) ≡ map (diff_under (resolved (seen old pairs))) (diffs_at old ds)
  diffs_same ds known = let bindings = same_substitution in let diffs = diffs_at-grow old mid ds grows known in λ i. map (diff_under (bindings i)) (diffs i)

  pub facts_are_over : (v : source.Visit) (fs : List (Fact Id)) (X : Type 0) (found : Option X) (B : X → Type 0) → IsVisitIn old v → fs ≡ v.hypotheses → found ≡ None
      → MatchOption found (some_fact_over most_symbols (map (fact_under (resolved (seen mid pairs))) (map (fact_at mid) fs)) ≡ true) B → is_large_visit (visit_under (resolved (seen old pairs)) (visit_at old v)) ≡ true
  facts_are_over v fs X found B known e none h =
      let over = subst (λ o. MatchOption o (some_fact_over most_symbols (map (fact_under (resolved (seen mid pairs))) (map (fact_at mid) fs)) ≡ true) B) none h in
      let here = subst (λ (l : List (Fact Id)). some_fact_over most_symbols (map (fact_under (resolved (seen mid pairs))) (map (fact_at mid) l)) ≡ true) e over in
      hypotheses_large (visit_under (resolved (seen old pairs)) (visit_at old v)) (subst (λ l. some_fact_over most_symbols l ≡ true) (facts_same v.hypotheses known.hypotheses) here)

-- there are as many terms as before
same_length : (old new : List Term) (s : Subst) (ids made : List Id) → NameTerms new made (map (bind s) (map (tree_at old) ids)) → length made ≡ length ids
same_length old new s ids made names = sym (length-map made (tree_at new)) ∙ (ap length names.are ∙ (length-map (map (tree_at old) ids) (bind s) ∙ length-map ids (tree_at old)))

-- numbering constraints and putting terms into them change places
numbered_all : (s : Subst) (ds : List Diff) → map numbered_diff (map (diff_under s) ds) ≡ map (diff_under s) (map numbered_diff ds)
numbered_all s [] = refl
numbered_all s (d ∷ ds) = let first = numbered-under s d in let others = numbered_all s ds in λ i. first i ∷ others i

-- constraints of a visit have the clause's variables below its next one
own_each : (n : ℕ) (ds : List Diff) → AllByRecursion (λ x. x < n) (flat_map diff_variables (map numbered_diff ds)) → AllByRecursion (IsOwnBelow n) ds
own_each n [] b = tt
own_each n (d ∷ ds) b =
    let Low : List ℕ → Type 0 = AllByRecursion (λ x. x < n) in (
      subst Low (own-numbered d) (all_first (λ x. x < n) (diff_variables (numbered_diff d)) (flat_map diff_variables (map numbered_diff ds)) b),
      own_each n ds (all_second (λ x. x < n) (diff_variables (numbered_diff d)) (flat_map diff_variables (map numbered_diff ds)) b),
    )

pub own_below : (old mid : List Term) (v : source.Visit) → Grows old mid → IsVisitIn old v → AllByRecursion (IsOwnBelow v.next) (diffs_at mid v.diffs)
own_below old mid v grows known =
    let here = leaves_were v.next (flat_map diff_variables (map numbered_diff (diffs_at old v.diffs))) (parted v.next (visit_at old v) known.below).diffs in
    subst (AllByRecursion (IsOwnBelow v.next)) (sym (diffs_at-grow old mid v.diffs grows known.diffs)) (own_each v.next (diffs_at old v.diffs) here)

-- a visit is named by its parts
pub visit_under_named : (old mid new : List Term) (s : Subst) (v made : source.Visit) → IsVisitIn old v → Grows mid new → HasBelow s v.next → made.next ≡ v.next → made.phase ≡ v.phase → NamesKnown mid made.scope made.hypotheses (visit_under s (visit_at old v))
    → NameTerms new made.messages (map (bind s) (map (tree_at old) v.messages)) → NameTerms new made.sessions (map (bind s) (map (tree_at old) v.sessions)) → NameDiffs new made.diffs (map (diff_under s) (diffs_at old v.diffs))
    → NameFacts new made.hypotheses (map (fact_under s) (map (fact_at old) v.hypotheses)) → NamesVisit new made (visit_under s (visit_at old v))
visit_under_named old mid new s v made known grows below next phase parts messages sessions diffs facts =
    visit_named new made (visit_under s (visit_at old v)) (NamesScope-grows mid new made.scope (visit_under s (visit_at old v)).scope grows parts.scope) facts messages sessions
    record { known = diffs.known; are = ap (map numbered_diff) diffs.are ∙ numbered_all s (diffs_at old v.diffs) } phase
    (subst (λ n. Below n (visit_under s (visit_at old v))) (sym next) (visit_below s v.next below (visit_at old v) (parted v.next (visit_at old v) known.below)))
    (omega (arith, next, known.room, same_length old new s v.sessions made.sessions sessions))
