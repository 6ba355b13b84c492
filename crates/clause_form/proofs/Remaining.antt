-- The variables of the facts that a norm keeps.
use Rattle.std.proofs.Common.{◌≡◌, ◌∙◌, Bool, true, false, ◌&&◌, not, cond, filter, List, [], ◌∷◌, ◌++◌, map, flat_map, ap, sym, append-nil}
use Rattle.spec_terms.specs.Term.{Term}
use Rattle.spec_clauses.specs.Fact.{Fact, Clause, same_fact, is_variable_known}
use Rattle.spec_clauses.specs.Norm.{distinct, is_lonely, is_passed_on}
use Rattle.spec_clauses.specs.Selection.{is_solved}
use Rattle.spec_clauses.specs.Variables.{fact_variables, firm_variables, clause_variables}
use Rattle.term_tree.specs.declared.bank.Id.{Id}
use Rattle.clause_form.specs.Normals.{simplest, kept_numbers}
use Rattle.clause_form.specs.Seen.{fact_at, clause_at, NameFacts, IdClause}

-- whether a clause of these hypotheses and this conclusion says that the attacker has everything
abbrev pub says_all : List (Fact Term) → Fact Term → Bool
says_all hs f = (is_solved hs && is_variable_known f) && not (is_passed_on hs f)

module _ (all : List Term) (clause : IdClause) (k : Fact Id) (copied kept few : List (Fact Id)) where
  abbrev core : Clause Term
  core = simplest (clause_at all clause)

  abbrev pub IsFew : Type 0
  IsFew = NameFacts all few (filter (λ h. not (is_lonely (fact_variables (fact_at all k) ++ firm_variables (map (fact_at all) kept)) h)) (map (fact_at all) kept))

  few_are : k ≡ clause.conclusion → copied ≡ clause.hypotheses → NameFacts all kept (distinct same_fact (map (fact_at all) copied)) → IsFew → map (fact_at all) few ≡ core.hypotheses
  few_are concl hyps names names_few =
      let trees = names.are ∙ ap (λ l. distinct same_fact (map (fact_at all) l)) hyps in
      names_few.are ∙ (λ i. filter (λ h. not (is_lonely (fact_variables (fact_at all (concl i)) ++ firm_variables (trees i)) h)) (trees i))

  pub general_kept : k ≡ clause.conclusion → copied ≡ clause.hypotheses → NameFacts all kept (distinct same_fact (map (fact_at all) copied)) → IsFew → (fewer : List (Fact Id)) (b : Bool) → fewer ≡ few → b ≡ says_all (map (fact_at all) fewer) (fact_at all k) → b ≡ true
      → fact_variables (fact_at all k) ++ [] ≡ kept_numbers core
  general_kept concl hyps names names_few fewer b e says holds =
      let hs = ap (map (fact_at all)) e ∙ few_are concl hyps names names_few in
      let general : says_all core.hypotheses core.conclusion ≡ true = sym (λ i. says_all (hs i) (fact_at all (concl i))) ∙ (sym says ∙ holds) in
      append-nil (fact_variables (fact_at all k)) ∙ (ap (λ f. fact_variables (fact_at all f)) concl ∙ sym (ap (λ c. cond c (fact_variables core.conclusion) (clause_variables core)) general))

  pub other_kept : k ≡ clause.conclusion → copied ≡ clause.hypotheses → NameFacts all kept (distinct same_fact (map (fact_at all) copied)) → IsFew → (fewer again : List (Fact Id)) (b : Bool) → fewer ≡ few → again ≡ few → b ≡ says_all (map (fact_at all) fewer) (fact_at all k) → b ≡ false
      → flat_map fact_variables (fact_at all k ∷ map (fact_at all) again) ≡ kept_numbers core
  other_kept concl hyps names names_few fewer again b e also says fails =
      let are = few_are concl hyps names names_few in
      let hs = ap (map (fact_at all)) e ∙ are in
      let more = ap (map (fact_at all)) also ∙ are in
      let general : says_all core.hypotheses core.conclusion ≡ false = sym (λ i. says_all (hs i) (fact_at all (concl i))) ∙ (sym says ∙ fails) in
      (λ i. flat_map fact_variables (fact_at all (concl i) ∷ more i)) ∙ sym (ap (λ c. cond c (fact_variables core.conclusion) (clause_variables core)) general)
