-- What is derived by raw clauses is derived by the clauses of a list that has their norms.
use Rattle.std.proofs.Common.{◌≡◌, ◌∙◌, false, List, [], ◌∷◌, ◌++◌, map, sym, subst, inl, inr}
use Rattle.std.specs.Prelude.{flat_map}
use Rattle.spec_terms.specs.Term.{Term}
use Rattle.spec_clauses.specs.Fact.{Fact, Clause, fact_under}
use Rattle.spec_clauses.specs.Flat.{flat, flat_under, flat_parts}
use Rattle.spec_clauses.specs.Norm.{norm, norms}
use Rattle.spec_clauses.specs.Inclusion.{Has}
use Rattle.spec_clauses.proofs.Inclusion.{all_has, Has-filter_map, Has-flat_map_source, pick-map}
use Rattle.spec_clauses.proofs.FlatUnder.{flat_parts-flat, flat_under-flat, flat_under-flats}
use Rattle.spec_derivations.specs.Derivation.{Instance, is_required_event, AreDerived, nothing, allowed, by_clause, Derive}
use Rattle.spec_derivations.proofs.Forest.{cut, join, less}
use Rattle.spec_derivations.proofs.NormLaw.{norm_law}
use Rattle.spec_abstraction.specs.Taken.{IsTaken}

-- a derived fact beside derived facts
pub beside : (IsRule : Clause Term → Type 0) (events fs gs : List (Fact Term)) → AreDerived IsRule events fs → AreDerived IsRule events gs → AreDerived IsRule events (fs ++ gs)
beside IsRule events fs gs a b = (join IsRule events a b).derivation

-- one of derived facts
pub one_of : (IsRule : Clause Term → Type 0) (events fs : List (Fact Term)) (f : Fact Term) → Has fs f → AreDerived IsRule events fs → AreDerived IsRule events (f ∷ [])
one_of IsRule events fs f h d = (cut IsRule events h.1 d).one

-- an instance of a clause is one of a flat part of it
part_instance : (c : Clause Term) (premises : List (Fact Term)) (f : Fact Term) → Instance c premises f → (part : Clause Term) × Has (flat_parts c) part × Instance part premises f
part_instance c premises f i =
    let concluded : Has (flat_under i.by (flat c.conclusion)) f = subst (λ fs. Has fs f) (sym (flat_under-flat i.by c.conclusion)) i.concludes in
    let (g, found, made) = Has-flat_map_source (λ h. flat (fact_under i.by h)) (flat c.conclusion) f concluded in
    let part : Clause Term = record { hypotheses = flat_map flat c.hypotheses; diffs = c.diffs; conclusion = g } in (
      part,
      (map (λ h. record { hypotheses = flat_map flat c.hypotheses; diffs = c.diffs; conclusion = h }) found.0, pick-map (λ h. record { hypotheses = flat_map flat c.hypotheses; diffs = c.diffs; conclusion = h }) found.1),
      record { by = i.by; premises_are = i.premises_are ∙ sym (flat_under-flats i.by c.hypotheses); met = i.met; concludes = made },
    )

module _ (events : List (Fact Term)) (clauses : List (Clause Term)) where
  -- what a taken raw clause concludes of derived premises is derived by the list
  pub concluded : (c : Clause Term) (premises : List (Fact Term)) (f : Fact Term) → is_required_event f ≡ false → IsTaken clauses c → Instance c premises f → Derive clauses events premises → Derive clauses events (f ∷ [])
  concluded c premises f plain taken i d =
      let (part, is_part, instance) = part_instance c premises f i in
      elim (norm_law part premises f (flat_parts-flat c part is_part) instance) as (λ _. Derive clauses events (f ∷ [])) [
        | inl among ↦ one_of (Has clauses) events premises f among d
        | inr follows ↦ by_clause plain (all_has (Has clauses) (norms c) follows.0 taken (Has-filter_map norm (flat_parts c) part follows.0 is_part follows.1))
            follows.2.instance (less (Has clauses) events follows.2.kept follows.2.within d).derivation nothing
      ]

-- So the list derives what the raw clauses derive.
pub taken_derive : (clauses : List (Clause Term)) (events : List (Fact Term)) {fs : List (Fact Term)} → AreDerived (IsTaken clauses) events fs → Derive clauses events fs
taken_derive clauses events nothing = nothing
taken_derive clauses events (allowed h d) = allowed h (taken_derive clauses events d)
taken_derive clauses events (by_clause {c = c} {premises = premises} {f = f} {fs = fs} plain rule i p d) =
    beside (Has clauses) events (f ∷ []) fs (concluded events clauses c premises f plain rule i (taken_derive clauses events p)) (taken_derive clauses events d)
