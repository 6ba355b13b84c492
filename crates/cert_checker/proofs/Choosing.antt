-- The numbers for what is said of clauses are as many as the clauses.
use Rattle.std.proofs.Common.{◌≡◌, ◌∙◌, ℕ, suc, Option, Some, None, List, [], ◌∷◌, length, refl, ap}
use Rattle.std.proofs.lemmas.List.{length-map}
use Rattle.spec_terms.specs.Term.{Term}
use Rattle.spec_clauses.specs.Fact.{Clause}
use Rattle.spec_certificates.specs.Certificate.{numbers_for}
use Rattle.clause_form.specs.Fit.{clauses_at}
use Rattle.clause_form.specs.Seen.{clause_at, AreClausesIn, IdClause}
use Rattle.cert_stages.specs.Lowering.{AreNormalIn}

for_each : (clauses : List (Clause Term)) (said : List (Option ℕ)) → length (numbers_for clauses said) ≡ length clauses
for_each [] said = refl
for_each (c ∷ cs) [] = ap suc (for_each cs [])
for_each (c ∷ cs) (None ∷ said) = ap suc (for_each cs said)
for_each (c ∷ cs) (Some n ∷ said) = ap suc (for_each cs said)

pub numbers_as_many : (all : List Term) (cs : List IdClause) (said : List (Option ℕ)) (numbers : List ℕ) → numbers ≡ numbers_for (clauses_at all cs) said → length numbers ≡ length cs
numbers_as_many all cs said numbers is = ap length is ∙ (for_each (clauses_at all cs) said ∙ length-map cs (clause_at all))

-- clauses that are normal are known
pub normal_known : (all : List Term) (cs : List IdClause) → AreNormalIn all cs → AreClausesIn all cs
normal_known all [] a = tt
normal_known all (c ∷ cs) a = (a.0.known, normal_known all cs a.1)
