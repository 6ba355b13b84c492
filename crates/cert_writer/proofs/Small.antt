-- Clauses within the limit of size: one of them, the first of them and the others, and those that are fit.
use Rattle.std.proofs.Common.{◌≡◌, ℕ, zero, suc, ◌<◌, List, [], ◌∷◌, length, take, drop, get_or, sym, subst, arith}
use Rattle.spec_terms.specs.Term.{Term}
use Rattle.clause_form.specs.Seen.{AreClausesIn, IdClause}
use Rattle.clause_form.specs.Fit.{AreFit}
use Rattle.cert_writer.specs.Given.{IsSmall, AreSmall}

pub small_at : (all : List Term) (cs : List IdClause) (i : ℕ) (c : IdClause) → c ≡ get_or cs i c → AreSmall all cs → i < length cs → IsSmall all c
small_at all [] i c is small within = absurd (omega (arith, within))
small_at all (d ∷ cs) zero c is small within = subst (IsSmall all) (sym is) small.0
small_at all (d ∷ cs) (suc i) c is small within = small_at all cs i c is small.1 (omega (arith, within))

pub small_first : (all : List Term) (cs : List IdClause) (n : ℕ) → AreSmall all cs → AreSmall all (take n cs)
small_first all [] zero small = tt
small_first all [] (suc n) small = tt
small_first all (c ∷ cs) zero small = tt
small_first all (c ∷ cs) (suc n) small = (small.0, small_first all cs n small.1)

pub small_rest : (all : List Term) (cs : List IdClause) (n : ℕ) → AreSmall all cs → AreSmall all (drop n cs)
small_rest all [] zero small = tt
small_rest all [] (suc n) small = tt
small_rest all (c ∷ cs) zero small = small
small_rest all (c ∷ cs) (suc n) small = small_rest all cs n small.1

pub small_known : (all : List Term) (cs : List IdClause) → AreSmall all cs → AreClausesIn all cs
small_known all [] small = tt
small_known all (c ∷ cs) small = (small.0.known, small_known all cs small.1)

pub fit_small : (all : List Term) (cs : List IdClause) → AreFit all cs → AreSmall all cs
fit_small all [] fit = tt
fit_small all (c ∷ cs) fit = (record { known = fit.0.known; small = fit.0.small }, fit_small all cs fit.1)
