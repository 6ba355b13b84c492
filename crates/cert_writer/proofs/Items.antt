-- The clauses that ids name, place by place.
use Rattle.std.proofs.Common.{◌≡◌, ℕ, suc, ◌<◌, ◌≤◌, Option, Some, None, List, [], ◌∷◌, length, get_or, subst, arith}
use Rattle.std.specs.Prelude.{slice_get, MatchOption}
use Rattle.std.proofs.lemmas.List.{length-map}
use Rattle.spec_terms.specs.Term.{Term}
use Rattle.spec_clauses.specs.Fact.{Clause}
use Rattle.spec_clauses.specs.Norm.{IsNormal}
use Rattle.spec_clauses.specs.Inclusion.{here, there, Has}
use Rattle.spec_certificates.specs.Certificate.{numbered_from}
use Rattle.spec_saturation.proofs.Pairs.{has_numbered}
use Rattle.spec_verdicts.proofs.Building.{numbers_length}
use Rattle.clause_form.specs.Seen.{clause_at, IdClause}
use Rattle.clause_form.specs.Fit.{AreFit, clauses_at}
use Rattle.log_entries.proofs.Placing.{numbered_given}

module _ (all : List Term) (cs : List IdClause) where
  pub item_at : (i : ℕ) (c : IdClause) → c ≡ get_or cs i c → i < length cs → slice_get (clauses_at all cs) i ≡ Some (clause_at all c)
  item_at i c is within = numbered_given all cs i c is within

  pub item_has : (i : ℕ) (c : IdClause) → c ≡ get_or cs i c → i < length cs → Has (clauses_at all cs) (clause_at all c)
  item_has i c is within = has_numbered (clauses_at all cs) (suc i) (clause_at all c) (item_at i c is within)

  pub items_past : (i : ℕ) → length cs ≤ i → length (clauses_at all cs) ≤ i
  items_past i past = omega (arith, past, length-map cs (clause_at all))

  pub numbers_past : (i : ℕ) → length cs ≤ i → length (numbered_from 1 (clauses_at all cs)) ≤ i
  numbers_past i past = omega (arith, past, length-map cs (clause_at all), numbers_length 1 (clauses_at all cs))

pub fit_normal : (all : List Term) (cs : List IdClause) → AreFit all cs → (c : Clause Term) → Has (clauses_at all cs) c → IsNormal c
fit_normal all [] fit c h = elim h.1 [ ]
fit_normal all (d ∷ cs) fit c (rest, here) = fit.0.normal
fit_normal all (d ∷ cs) fit c (rest, there p) = fit_normal all cs fit.1 c (_, p)

-- what is said of an option that is there, and of one that is not
pub when_some : {X : Type 0} (P : Type 0) (Q : X → Type 0) (o : Option X) (y : X) → o ≡ Some y → MatchOption o P Q → Q y
when_some {X} P Q o y is h = subst (λ (x : Option X). MatchOption x P Q) is h

pub when_none : {X : Type 0} (P : Type 0) (Q : X → Type 0) (o : Option X) → o ≡ None → MatchOption o P Q → P
when_none {X} P Q o is h = subst (λ (x : Option X). MatchOption x P Q) is h
