-- How many variables there may be, by the limit of size.
use Rattle.std.proofs.Common.{◌≡◌, ℕ, ◌<◌, ◌≤◌, false, not, nat_le, List, [], ◌∷◌, length, arith}
use Rattle.std.specs.Prelude.{flat_map}
use Rattle.std.specs.List.{AllByRecursion, list_any}
use Rattle.std.proofs.lemmas.Bool.Decides.{nat_tests}
use Rattle.std.proofs.lemmas.List.{length-append}
use Rattle.spec_trees.specs.Tree.{size}
use Rattle.spec_trees.proofs.Occurrence.{or_false}
use Rattle.spec_calculus.specs.Syntax.{Query, Protocol}
use Rattle.spec_calculus.specs.Bounds.{most_symbols}
use Rattle.spec_well_formed.specs.Limits.{IsSmallQuery, IsWithinLimits}
use Rattle.spec_terms.specs.Term.{Term}
use Rattle.spec_clauses.specs.Fact.{Fact, Clause, terms_of, total, fact_size, clause_size}
use Rattle.spec_clauses.specs.Variables.{leaves, fact_variables, all_terms, IsBelow, AreBelow}
use Rattle.spec_clauses.specs.Limits.{IsWithinLimit}
use Rattle.spec_clauses.specs.Inclusion.{Has}
use Rattle.spec_clauses.specs.Norm.{IsNormal}
use Rattle.spec_clauses.proofs.Lists.{all_weaker}
use Rattle.spec_clauses.proofs.NormNumbers.{norm-below}
use Rattle.spec_clauses.proofs.Parts.{fact_size-parts}
use Rattle.spec_translation.specs.Conversion.{StandsFor, Scope}
use Rattle.spec_translation.specs.Visit.{Visit, is_large_term, is_large_visit}
use Rattle.spec_translation.specs.Translation.{Clauses, IsTranslation}
use Rattle.spec_translation.proofs.Goal.{clauses_normal}
use Rattle.spec_translation.proofs.Sizes.{leaves-length, clauses_within}

-- what isn't over the limit
within : (n : ℕ) → not (nat_le n most_symbols) ≡ false → n ≤ most_symbols
within n e = grind (arith, nat_tests)

-- a term has no more variables than symbols, and nor has a fact
terms_few : (ts : List Term) → length (flat_map leaves ts) ≤ total size ts
terms_few [] = omega arith
terms_few (t ∷ ts) = omega (arith, leaves-length t, terms_few ts, length-append (leaves t) (flat_map leaves ts))

fact_few : (f : Fact Term) → length (fact_variables f) ≤ fact_size f
fact_few f = let few = terms_few (terms_of f) in let parts = fact_size-parts f in omega arith

scope_few : (scope : Scope) → list_any (λ (b : StandsFor). is_large_term b.term) scope ≡ false → AllByRecursion (λ (b : StandsFor). length (leaves b.term) ≤ most_symbols) scope
scope_few [] e = tt
scope_few (b ∷ bs) e =
    let parts = or_false (is_large_term b.term) (list_any (λ (d : StandsFor). is_large_term d.term) bs) e in
    let small = within (size b.term) parts.0 in
    let few = leaves-length b.term in
    (omega arith, scope_few bs parts.1)

hypotheses_few : (hs : List (Fact Term)) → list_any (λ h. not (nat_le (fact_size h) most_symbols)) hs ≡ false → AllByRecursion (λ h. length (fact_variables h) ≤ most_symbols) hs
hypotheses_few [] e = tt
hypotheses_few (h ∷ hs) e =
    let parts = or_false (not (nat_le (fact_size h) most_symbols)) (list_any (λ f. not (nat_le (fact_size f) most_symbols)) hs) e in
    let small = within (fact_size h) parts.0 in
    let few = fact_few h in
    (omega arith, hypotheses_few hs parts.1)

pub visit_few : (v : Visit) → is_large_visit v ≡ false
    → AllByRecursion (λ (b : StandsFor). length (leaves b.term) ≤ most_symbols) v.scope × AllByRecursion (λ h. length (fact_variables h) ≤ most_symbols) v.hypotheses
visit_few v e =
    let parts = or_false (list_any (λ (b : StandsFor). is_large_term b.term) v.scope) (list_any (λ h. not (nat_le (fact_size h) most_symbols)) v.hypotheses) e in
    (scope_few v.scope parts.0, hypotheses_few v.hypotheses parts.1)

-- the variables of a clause that is its own norm within the limit
normal_below : (c : Clause Term) → IsNormal c → IsWithinLimit c → AreBelow most_symbols (all_terms c)
normal_below c own small =
    all_weaker (IsBelow (clause_size c)) (IsBelow most_symbols)
    (λ t below. all_weaker (λ x. x < clause_size c) (λ x. x < most_symbols) (λ x h. omega (arith, h, small)) (leaves t) below)
    (all_terms c) (norm-below c c own.own)

pub clauses_below : (P : Protocol) (q : Query) (all : List (Clause Term)) (c : Clause Term) → IsWithinLimits P → IsSmallQuery q → IsTranslation P q (Clauses all) → Has all c → AreBelow most_symbols (all_terms c)
clauses_below P q all c limits small translated has =
    normal_below c (clauses_normal P q all translated c has) (clauses_within P q all c limits small translated has)
