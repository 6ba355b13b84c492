-- The three laws on which the soundness of saturation rests, in the words of instances, and what follows of them:
-- the clauses that rest suffice (Blanchet 2001, section 4, the theorem on the completeness of selection, where solved clauses do).
use Rattle.std.specs.Prelude.{◌≡◌, ◌⊎◌, ℕ, true, false, Option, Some, List, ◌++◌}
use Rattle.spec_terms.specs.Term.{Term, Subst}
use Rattle.spec_clauses.specs.Fact.{Fact, Clause, fact_under}
use Rattle.spec_clauses.specs.Flat.{is_flat_clause, flat_parts}
use Rattle.spec_clauses.specs.Selection.{Selection}
use Rattle.spec_clauses.specs.Norm.{IsNormal, norm}
use Rattle.spec_clauses.specs.Resolvents.{IsRawResolvent}
use Rattle.spec_clauses.specs.Inclusion.{Picks, Has, IsWithin}
use Rattle.spec_clauses.specs.Subsumption.{RowHolds, Subsumes}
use Rattle.spec_derivations.specs.Derivation.{Instance, is_required_event, Derive}
use Rattle.spec_derivations.specs.Choice.{CanRest, IsChosen, Placed, resting_of}
use Rattle.spec_derivations.specs.Closed.{ArePlacedClosed, Closes, solved_of}

-- an instance of the clause that concludes the same from no more
pub record Follows (c : Clause Term) (premises : List (Fact Term)) (f : Fact Term) : Type 0 where
  pub kept : List (Fact Term)
  pub instance : Instance c kept f
  pub within : IsWithin kept premises

-- The law of norm: an instance of a flat clause has its conclusion among its premises, or it follows by the norm.
abbrev pub NormLaw : Type 0
NormLaw = (c : Clause Term) (premises : List (Fact Term)) (f : Fact Term) → is_flat_clause c ≡ true → Instance c premises f → Has premises f ⊎ ((d : Clause Term) × (norm c ≡ Some d) × Follows d premises f)

-- A flat part of a raw resolvent concludes f from the premises of the solved clause and the rest of the unsolved one's.
pub record PartFollows (raw : Option (Clause Term)) (premises : List (Fact Term)) (f : Fact Term) : Type 0 where
  pub clause : Clause Term
  pub is_raw : raw ≡ Some clause
  pub part : Clause Term
  pub is_part : Has (flat_parts clause) part
  pub follows : Follows part premises f

-- What a chosen hypothesis stands for in an instance is one of its premises, and no `mev`; where a clause that may rest concludes it,
-- a flat part of the raw resolvent concludes the same from the premises of both without it.
pub record ChosenPremise (unsolved : Clause Term) (at : Selection) (premises : List (Fact Term)) (f : Fact Term) (by : Subst) : Type 0 where
  pub rest : List (Fact Term)
  pub picked : Picks premises (fact_under by at.fact) rest
  pub no_event : is_required_event (fact_under by at.fact) ≡ false
  pub resolves : (resting : Clause Term) (raw : Option (Clause Term)) (above : List (Fact Term)) → IsNormal resting → CanRest resting → IsRawResolvent resting unsolved at raw → Instance resting above (fact_under by at.fact) → PartFollows raw (above ++ rest) f

-- The law of resolution, for clauses that are their own norms.
abbrev pub ResolutionLaw : Type 0
ResolutionLaw = (unsolved : Clause Term) (at : Selection) (premises : List (Fact Term)) (f : Fact Term) → IsNormal unsolved → IsChosen unsolved at → (i : Instance unsolved premises f) → ChosenPremise unsolved at premises f i.by

-- The law of rows: where a row holds, what an instance of the special clause concludes, the general one concludes from no more.
abbrev pub RowLaw : Type 0
RowLaw = (general special : Clause Term) (row : List ℕ) (premises : List (Fact Term)) (f : Fact Term) → RowHolds general special row → Instance special premises f → Follows general premises f

-- and the same by subsumption
abbrev pub SubsumptionLaw : Type 0
SubsumptionLaw = (general special : Clause Term) (premises : List (Fact Term)) (f : Fact Term) → Subsumes general special → Instance special premises f → Follows general premises f

-- What is derived from the given clauses is derived by the rules alone, with the same events.
abbrev pub Suffice : List (Clause Term) → List (Clause Term) → Type 0
Suffice given rules = (events facts : List (Fact Term)) → Derive given events facts → Derive rules events facts

-- Of a closed list the clauses that rest suffice, whatever is chosen of the others,
abbrev pub RestingClausesSuffice : Type 0
RestingClausesSuffice = (given : List (Clause Term)) (placed : List Placed) → ArePlacedClosed given placed → Suffice given (resting_of placed)

-- and where the largest hypotheses are, the solved ones.
abbrev pub SolvedClausesSuffice : Type 0
SolvedClausesSuffice = (given clauses : List (Clause Term)) → Closes given clauses → Suffice given (solved_of clauses)
