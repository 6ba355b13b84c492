-- Going down a term of a bank, and along facts and clauses: what stands there is known, and lower than the term.
use Rattle.std.proofs.Common.{◌≡◌, ℕ, zero, suc, ◌<◌, List, [], ◌∷◌, length, map, get_or, sym, subst, arith}
use Rattle.spec_terms.specs.Term.{Term}
pub use Rattle.clause_diffs.proofs.Walks.{known_at, argument_at, argument_later, known_later, got}
use Rattle.clause_form.specs.declared.facts.Fact.{Fact}
use Rattle.clause_form.specs.Facts.{fact_of}
use Rattle.clause_form.specs.Seen.{IsFactIn, AreFactsIn, IsClauseIn, AreClausesIn, IdClause}

-- a fact among known facts is known
fact_in : (all : List Term) (fs : List Fact) (i : ℕ) (d : Fact) → AreFactsIn all (map fact_of fs) → i < length fs → IsFactIn all (fact_of (get_or fs i d))
fact_in all [] i d known within = absurd (omega arith)
fact_in all (f ∷ fs) zero d known within = known.0
fact_in all (f ∷ fs) (suc i) d known within = fact_in all fs i d known.1 (omega arith)

pub fact_known_at : (all : List Term) (fs : List Fact) (i : ℕ) (f : Fact) → f ≡ get_or fs i f → AreFactsIn all (map fact_of fs) → i < length fs → IsFactIn all (fact_of f)
fact_known_at all fs i f is known within = subst (λ (x : Fact). IsFactIn all (fact_of x)) (sym is) (fact_in all fs i f known within)

-- a clause among known clauses is known
clause_in : (all : List Term) (cs : List IdClause) (i : ℕ) (d : IdClause) → AreClausesIn all cs → i < length cs → IsClauseIn all (get_or cs i d)
clause_in all [] i d known within = absurd (omega arith)
clause_in all (c ∷ cs) zero d known within = known.0
clause_in all (c ∷ cs) (suc i) d known within = clause_in all cs i d known.1 (omega arith)

pub clause_known_at : (all : List Term) (cs : List IdClause) (i : ℕ) (c : IdClause) → c ≡ get_or cs i c → AreClausesIn all cs → i < length cs → IsClauseIn all c
clause_known_at all cs i c is known within = subst (λ (x : IdClause). IsClauseIn all x) (sym is) (clause_in all cs i c known within)
