-- What a first look at two clauses tells: that facts don't match, stand nowhere, or don't all stand.
use Rattle.std.specs.Prelude.{◌≡◌, ℕ, Some, slice_get, List, map}
use Rattle.spec_terms.specs.Term.{Term, Subst}
use Rattle.spec_clauses.specs.Fact as horn
use Rattle.spec_clauses.specs.Fact.{fact_under}
use Rattle.spec_clauses.specs.Inclusion.{IsWithin}
use Rattle.spec_clauses.specs.Subsumption.{firm}
use Rattle.term_tree.specs.declared.bank.Id.{Id}
use Rattle.clause_form.specs.Seen.{fact_at}
use Rattle.fact_placing.specs.Boards.{facts_at}

-- no substitution makes the general fact the special one
abbrev pub AreApart : List Term → horn.Fact Id → horn.Fact Id → Type 0
AreApart all general special = (s : Subst) → fact_under s (fact_at all general) ≡ fact_at all special → ⊥

-- no substitution makes the fact one of the hypotheses
abbrev pub StandsNowhere : List Term → horn.Fact Id → List (horn.Fact Id) → Type 0
StandsNowhere all fact hyps = (s : Subst) (p : ℕ) → slice_get (facts_at all hyps) p ≡ Some (fact_under s (fact_at all fact)) → ⊥

-- no substitution makes the firm ones of the facts hypotheses, at places of their own
abbrev pub CannotAllStand : List Term → List (horn.Fact Id) → List (horn.Fact Id) → Type 0
CannotAllStand all facts hyps = (s : Subst) → IsWithin (map (fact_under s) (firm (facts_at all facts))) (facts_at all hyps) → ⊥
