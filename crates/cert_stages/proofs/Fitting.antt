-- Clauses that are their own norms within the limit of size: they stay so as the bank grows, and so are resolvents and what is translated.
use Rattle.std.proofs.Common.{◌≡◌, ℕ, zero, suc, ◌+◌, ◌<◌, ◌^◌, Some, List, [], ◌∷◌, length, get_or, ap, sym, arith}
use Rattle.std.specs.Prelude.{slice_get}
use Rattle.spec_terms.specs.Term.{Term}
use Rattle.spec_clauses.specs.Fact.{clause_size}
use Rattle.spec_certificates.specs.Certificate.{numbered_from}
use Rattle.clause_form.specs.Seen.{clause_at, AreClausesIn, IdClause}
use Rattle.cert_stages.specs.Stages.{AreInShape}
use Rattle.cert_stages.specs.Lowering.{AreNormalIn}
use Rattle.clause_form.specs.Fit.{IsFit, clauses_at}

-- and the clause at its place
pub clause_at_index : (all : List Term) (cs : List IdClause) (i : ℕ) (c : IdClause) → c ≡ get_or cs i c → i < length cs → slice_get (clauses_at all cs) i ≡ Some (clause_at all c)
clause_at_index all [] i c is within = absurd (omega arith)
clause_at_index all (d ∷ cs) zero c is within = ap (λ x. Some (clause_at all x)) (sym is)
clause_at_index all (d ∷ cs) (suc i) c is within = clause_at_index all cs i c is (omega arith)

-- those of which the shapes were looked at are normal
pub shaped_normal : (all : List Term) (n k : ℕ) (cs : List IdClause) → AreClausesIn all cs → AreInShape n (numbered_from k (clauses_at all cs)) → AreNormalIn all cs
shaped_normal all n k [] known shaped = tt
shaped_normal all n k (c ∷ cs) known shaped = (record { known = known.0; normal = shaped.0.normal; small = shaped.0.small }, shaped_normal all n (k + 1) cs known.1 shaped.1)

-- the size of a fit clause is told
pub fit_size : (all : List Term) (c : IdClause) → IsFit all c → clause_size (clause_at all c) < 2 ^ 63
fit_size all c fit = let small = fit.small in omega (arith, small)
