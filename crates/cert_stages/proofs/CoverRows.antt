-- Cover rows, by the number of a clause.
use Rattle.std.proofs.Common.{◌≡◌, ◌↔◌, ◌∙◌, ℕ, zero, suc, ◌+◌, ◌<◌, ◌≤◌, Some, None, List, ◌∷◌, length, get_or, refl, sym, subst, arith, add-one}
use Rattle.std.specs.Prelude.{slice_get}
use Rattle.std.proofs.lemmas.List.{length-map}
use Rattle.std.proofs.lemmas.Option.{slice_get_past}
use Rattle.spec_calculus.specs.Points.{numbered}
use Rattle.spec_terms.specs.Term.{Term}
use Rattle.spec_clauses.specs.Fact.{Clause}
use Rattle.spec_clauses.specs.Subsumption.{RowHolds}
use Rattle.spec_certificates.specs.Certificate.{CoverRowHolds}
use Rattle.clause_form.specs.Seen.{clause_at, IdClause}
use Rattle.clause_form.specs.Fit.{clauses_at}
use Rattle.cert_stages.proofs.Fitting.{clause_at_index}

numbered_at_index : {A : Type 0} (xs : List A) (number index : ℕ) → number ≡ index + 1 → numbered xs number ≡ slice_get xs index
numbered_at_index xs number index next = rw (next, add-one) refl

-- no clause has a number of which one can't be taken, nor one past them
pub none_zero : (clauses : List (Clause Term)) (positions : List ℕ) (c : Clause Term) (number : ℕ) → number < 1 → CoverRowHolds clauses (number ∷ positions) c → ⊥
none_zero clauses positions c zero below h = let no : None ≡ Some h.0 = h.1 in cc
none_zero clauses positions c (suc n) below h = absurd (omega (arith, below))

pub none_past : (all : List Term) (cs : List IdClause) (positions : List ℕ) (c : Clause Term) (number index : ℕ) → number ≡ index + 1 → length cs ≤ index → CoverRowHolds (clauses_at all cs) (number ∷ positions) c → ⊥
none_past all cs positions c number index next past h =
    let none : slice_get (clauses_at all cs) index ≡ None = slice_get_past (clauses_at all cs) index (omega (arith, past, length-map cs (clause_at all))) in
    let no : None ≡ Some h.0 = sym none ∙ (sym (numbered_at_index (clauses_at all cs) number index next) ∙ h.1) in
    cc

-- the clause of the number is the one at its place
pub by_number : (all : List Term) (cs : List IdClause) (positions : List ℕ) (c : Clause Term) (number index : ℕ) (g : IdClause) → number ≡ index + 1 → g ≡ get_or cs index g → index < length cs → RowHolds (clause_at all g) c positions ↔ CoverRowHolds (clauses_at all cs) (number ∷ positions) c
by_number all cs positions c number index g next is within =
    let there : numbered (clauses_at all cs) number ≡ Some (clause_at all g) = numbered_at_index (clauses_at all cs) number index next ∙ clause_at_index all cs index g is within in
    ((λ x. (clause_at all g, there, x)), (λ h. let same : h.0 ≡ clause_at all g = cc (there, h.1) in subst (λ d. RowHolds d c positions) same h.2))
