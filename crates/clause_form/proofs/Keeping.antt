-- Facts that a rule of the norm leaves as they are.
use Rattle.std.proofs.Common.{◌≡◌, ℕ, Bool, true, not, Result, IfOk, List, [], map, filter, ap, sym, ◌∙◌, subst}
use Rattle.std.specs.declared.alloc.AllocError.{AllocError}
use Rattle.std.specs.List.{list_all}
use Rattle.spec_terms.specs.Term.{Term}
use Rattle.spec_clauses.specs.Fact.{Fact, Bad, Clause, same_fact}
use Rattle.spec_clauses.specs.Norm.{distinct, is_lonely}
use Rattle.spec_clauses.proofs.Distinct.{filter-all}
use Rattle.term_tree.specs.declared.bank.Id.{Id}
use Rattle.clause_form.specs.Normality.{are_different}
use Rattle.clause_form.specs.Seen.{fact_at, AreFactsIn, NameFacts}
use Rattle.clause_form.proofs.Flattening.{with_hypotheses}
use Rattle.clause_form.proofs.Told.{repeats_are, all_pass}

-- none of them stands twice
pub none_repeated : (all : List Term) (facts k : List (Fact Id)) (b : Bool) → AreFactsIn all facts → k ≡ facts → b ≡ are_different (map (fact_at all) k) → b ≡ true → NameFacts all facts (distinct same_fact (map (fact_at all) facts))
none_repeated all facts k b known is told passed =
    let c : Clause Term = with_hypotheses (map (fact_at all) facts) (Bad []) in
    let own = (repeats_are c b (told ∙ ap (λ l. are_different (map (fact_at all) l)) is)).0 passed in
    record { known = known; are = sym (ap (λ (d : Clause Term). d.hypotheses) own) }

-- none of them is lonely
pub none_dropped : (all : List Term) (numbers : List ℕ) (facts k : List (Fact Id)) (b : Bool) → AreFactsIn all facts → k ≡ facts → b ≡ list_all (λ h. not (is_lonely numbers h)) (map (fact_at all) k) → b ≡ true
    → NameFacts all facts (filter (λ h. not (is_lonely numbers h)) (map (fact_at all) facts))
none_dropped all numbers facts k b known is told passed =
    let test : Fact Term → Bool = λ h. not (is_lonely numbers h) in
    let pass : list_all test (map (fact_at all) facts) ≡ true = sym (told ∙ ap (λ l. list_all test (map (fact_at all) l)) is) ∙ passed in
    record { known = known; are = sym (filter-all test (map (fact_at all) facts) (all_pass test (map (fact_at all) facts) pass)) }

-- what is named of facts, told of the same facts
pub named_of : (all : List Term) (rule : List (Fact Term) → List (Fact Term)) (r : Result (List (Fact Id)) AllocError) (facts k : List (Fact Id)) → k ≡ facts → IfOk r (λ kept. NameFacts all kept (rule (map (fact_at all) k))) → IfOk r (λ kept. NameFacts all kept (rule (map (fact_at all) facts)))
named_of all rule r facts k is names = subst (λ (l : List (Fact Id)). IfOk r (λ kept. NameFacts all kept (rule (map (fact_at all) l)))) is names
