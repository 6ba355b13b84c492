-- Correspondences hold: where rules suffice, and each of them that concludes `bad` is satisfied, no run violates the correspondence.
use Rattle.std.proofs.Common.{◌≡◌, ◌∙◌, ℕ, zero, suc, true, List, [], ◌∷◌, ◌++◌, map, refl, ap, sym, subst}
use Rattle.std.specs.Prelude.{slice_get, take, flat_map}
use Rattle.std.specs.List.{AllByRecursion}
use Rattle.spec_trees.specs.Tree.{trees, bind}
use Rattle.spec_calculus.specs.Syntax.{Variable, EventTerm, Correspondence, Protocol}
use Rattle.spec_calculus.specs.Syntax as calculus
use Rattle.spec_calculus.specs.Values.{values_of}
use Rattle.spec_calculus.specs.Matching.{rules_of, places_row}
use Rattle.spec_calculus.specs.Runs.{Performed}
use Rattle.spec_calculus.specs.Secrecy.{instance, Holds}
use Rattle.spec_calculus.specs.Standing.{Lacks, EventLacks}
use Rattle.spec_calculus.proofs.Items.{each-slice_get, if_some-is}
use Rattle.spec_calculus.proofs.Lacking.{row_lacks}
use Rattle.spec_well_formed.specs.Rules.{IsProperRule}
use Rattle.spec_well_formed.specs.Processes.{HasLinearPatterns}
use Rattle.spec_well_formed.specs.Signature.{signature_of}
use Rattle.spec_well_formed.specs.Leaves.{row_leaves}
use Rattle.spec_well_formed.specs.Queries.{event_leaves, HasQueryLeaves}
use Rattle.spec_terms.specs.Term.{Term, Subst}
use Rattle.spec_clauses.specs.Fact.{Fact, Ev, Mev, Bad, Clause, fact_under}
use Rattle.spec_clauses.specs.Flat.{flat}
use Rattle.spec_clauses.specs.Inclusion.{here, Has}
use Rattle.spec_clauses.proofs.Inclusion.{all_has, Contains-from_Has, Has-map_source, Has-flat_map, Has-one}
use Rattle.spec_clauses.proofs.Lists.{all_append, all_first, all_weaker}
use Rattle.spec_derivations.specs.Derivation.{Instance, Derive}
use Rattle.spec_derivations.specs.Laws.{Suffice}
use Rattle.spec_derivations.proofs.Forest.{required_allowed}
use Rattle.spec_translation.specs.Conversion.{converted, converted_row}
use Rattle.spec_translation.specs.Goal.{query_leaf, query_term, event_variables, goal_raw, required}
use Rattle.spec_translation.specs.Translation.{Clauses, IsTranslation}
use Rattle.spec_translation.specs.Satisfied.{IsMet}
use Rattle.spec_translation.proofs.Conversions.{converted-bind, converted_row-trees}
use Rattle.spec_certificates.specs.Shown.{EachSatisfied}
use Rattle.spec_abstraction.specs.Trace.{MadeAt, trace_of}
use Rattle.spec_abstraction.specs.Naming.{atom_term, abstracted, performed_fact, event_fact, event_facts, naming}
use Rattle.spec_abstraction.specs.OneToOne.{is_foreign, IsOneToOne}
use Rattle.spec_abstraction.proofs.Holding.{translations_hold_all}
use Rattle.spec_abstraction.proofs.Listed.{concluded}
use Rattle.spec_abstraction.proofs.Runs.{runs_are_derived}
use Rattle.spec_abstraction.proofs.Entries.{runs_have_entries}
use Rattle.spec_abstraction.proofs.OneToOne.{runs_are_one_to_one}
use Rattle.spec_abstraction.proofs.Backwards.{is_bound, bound_first, bound_second, places_row_back, places_row_bound}
use Rattle.spec_soundness.proofs.Secrecy.{shown_bad}
use Rattle.spec_soundness.proofs.Extension.{leaf_under, IsAnswered, Answers, event_back, bindings_of, bindings_back, all_performed}
use Rattle.spec_soundness.proofs.Instances.{IsQueryLeaf, numbered_leaves, bound_terms, terms_bound, left_same}

-- the first items of a list
all_taken : {X : Type 0} (A : X → Type 0) (k : ℕ) (xs : List X) → AllByRecursion A xs → AllByRecursion A (take k xs)
all_taken A zero xs a = tt
all_taken A (suc k) [] a = tt
all_taken A (suc k) (x ∷ xs) a = (a.0, all_taken A k xs a.1)

-- the terms of a query under one substitution after another
terms_under : (P : Protocol) (r s : Subst) (ts : List calculus.Term) → map (bind r) (map (bind s) (map (query_term P) ts)) ≡ map (converted P (leaf_under r s)) ts
terms_under P r s [] = refl
terms_under P r s (t ∷ ts) =
    let first : bind r (bind s (query_term P t)) ≡ converted P (leaf_under r s) t = ap (bind r) (converted-bind P s query_leaf t) ∙ converted-bind P r (λ x. bind s (query_leaf x)) t in
    let others = terms_under P r s ts in λ i. first i ∷ others i

-- Required events that an instance of a clause has among its premises were performed, with the terms of the hypotheses.
module _ (P : Protocol) (made : List MadeAt) (one : IsOneToOne P (naming P made) made) (performed : List Performed) (lacks : AllByRecursion (EventLacks (is_foreign made)) performed) (rules : List (Clause Term)) (c : Clause Term) (premises : List (Fact Term)) (f : Fact Term) (i : Instance c premises f) (derived : Derive rules (event_facts P (naming P made) performed) premises) (s : Subst) where
  required_found : (e : EventTerm) → Has c.hypotheses (fact_under s (required P e)) → (p : Performed) × Has performed p × Answers P made one i.by s e p
  required_found e has =
      let terms = map (bind i.by) (map (bind s) (map (query_term P) e.arguments)) in
      let premise : Has premises (Mev e.event terms) = subst (λ fs. Has fs (Mev e.event terms)) (sym i.premises_are)
      (Has-flat_map (λ h. flat (fact_under i.by h)) c.hypotheses (fact_under s (required P e)) (Mev e.event terms) has ([], here)) in
      let (p, happened, same) = Has-map_source (event_fact P (naming P made)) performed (Mev e.event terms) (required_allowed derived premise.1) in
      let event : e.event ≡ p.event = cc in
      let arguments : terms ≡ map (abstracted P (naming P made)) p.arguments = cc in
      let row : converted_row P (leaf_under i.by s) (trees e.arguments) ≡ converted_row P (atom_term (naming P made)) (trees p.arguments) =
      converted_row-trees P (leaf_under i.by s) e.arguments
      ∙ (ap trees (sym (terms_under P i.by s e.arguments) ∙ arguments)
      ∙ sym (converted_row-trees P (atom_term (naming P made)) p.arguments)) in
      (p, happened, record { event = event; row = row; lacks = row_lacks (is_foreign made) p.arguments (all_has (EventLacks (is_foreign made)) performed p lacks happened) })

module _ (P : Protocol) (left : EventTerm) (alternatives : List (List EventTerm)) (all rules : List (Clause Term)) (suffice : Suffice all rules) (proper : (d : ℕ) → AllByRecursion IsProperRule (rules_of P d)) (linear : HasLinearPatterns P.main) (query : HasQueryLeaves P (Correspondence left alternatives)) where
  -- the left side holds free names and variables that are numbered from 1
  left_leaves : AllByRecursion IsQueryLeaf (row_leaves (trees left.arguments))
  left_leaves =
      let xs = event_leaves left in
      let ys = flat_map (flat_map event_leaves) alternatives in
      all_first IsQueryLeaf xs ys (numbered_leaves (signature_of P) (xs ++ ys) 0 query.0 query.1)

  -- the arguments of `bad` where the left side has these values
  bad_terms : Subst → List Term
  bad_terms s = map (bind s) (map (λ i. query_leaf (Variable i)) (event_variables left))

  pub correspondences_hold : IsTranslation P (Correspondence left alternatives) (Clauses all) → EachSatisfied P (Correspondence left alternatives) rules → Holds P (Correspondence left alternatives)
  unfolding left_leaves bad_terms
  correspondences_hold is satisfied steps c reached (index, violated) =
      let made = (trace_of P steps).made in
      let names = naming P made in
      let environment = violated.environment in
      let happened = instance environment left in
      let before = take index c.events in
      let one = runs_are_one_to_one P steps c reached in
      let lacks = (runs_have_entries P steps c reached).events in
      let holds = translations_hold_all P (Correspondence left alternatives) all is in
      let derived = runs_are_derived P (Correspondence left alternatives) all is proper linear steps c reached in
      let s = bound_terms P names environment in
      let terms = terms_bound P names environment left.arguments left_leaves in
      let goal : Instance (goal_raw P (Correspondence left alternatives)) (performed_fact P names happened ∷ []) (Bad (bad_terms s)) = record {
        by = s;
        premises_are = ap (λ ts. Ev left.event ts ∷ []) (sym terms);
        met = tt;
        concludes = ([], here);
      } in
      let bad = concluded (event_facts P names before) all (goal_raw P (Correspondence left alternatives)) (performed_fact P names happened ∷ []) (Bad (bad_terms s)) refl holds.goal goal (derived.happened index happened violated.is_instance) in
      let shown = shown_bad all rules suffice (event_facts P names before) (bad_terms s) bad in
      let met : IsMet P left alternatives shown.clause = satisfied shown.clause shown.listed shown.concludes in
      let r = shown.instance.by in
      let both : Has (Bad (map (bind r) (bad_terms met.by)) ∷ []) (Bad (bad_terms s)) = subst (λ g. Has (flat (fact_under r g)) (Bad (bad_terms s))) met.conclusion shown.instance.concludes in
      let bads : Bad (bad_terms s) ≡ Bad (map (bind r) (bad_terms met.by)) = Has-one both in
      let variables : bad_terms s ≡ map (bind r) (bad_terms met.by) = cc in
      let event_lacks : AllByRecursion (Lacks (is_foreign made)) (values_of environment left.arguments) = if_some-is (EventLacks (is_foreign made)) (slice_get c.events index) happened (each-slice_get (EventLacks (is_foreign made)) c.events index lacks) violated.is_instance in
      let answers : Answers P made one r met.by left happened = record {
        event = refl;
        row = left_same P names environment r met.by left left_leaves variables;
        lacks = row_lacks (is_foreign made) (values_of environment left.arguments) event_lacks;
      } in
      let found = all_weaker (λ e. Has shown.clause.hypotheses (fact_under met.by (required P e))) (λ e. (p : Performed) × Has before p × Answers P made one r met.by e p)
      (required_found P made one before (all_taken (EventLacks (is_foreign made)) index c.events lacks) rules shown.clause shown.premises (Bad (bad_terms s)) shown.instance shown.derived met.by) met.alternative met.events in
      let first = places_row (trees left.arguments) (trees happened.arguments) in
      let later = bindings_of P made one r met.by before met.alternative found in
      let back = all_append (IsAnswered P made one r met.by) first later (places_row_back P made one (leaf_under r met.by) (trees left.arguments) (trees happened.arguments) answers.row answers.lacks) (bindings_back P made one r met.by before met.alternative found) in
      let bound = all_weaker (λ x. is_bound first x ≡ true) (λ x. is_bound (first ++ later) x ≡ true) (λ x h. bound_first first later x h) (row_leaves (trees left.arguments)) (places_row_bound P made one (leaf_under r met.by) (trees left.arguments) (trees happened.arguments) answers.row) in
      violated.unpreceded (first ++ later) met.alternative
      (event_back P made one r met.by (first ++ later) back left happened answers bound)
      (Contains-from_Has alternatives met.alternative met.listed)
      (all_performed P made one r met.by before (first ++ later) back met.alternative found (λ x h. bound_second first later x h))
