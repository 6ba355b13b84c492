-- The clauses of a certificate of which a hypothesis is chosen, by their places.
use Rattle.std.specs.Prelude.{◌≡◌, ℕ, zero, suc, ◌<◌, Option, Some, None, option_map, List, length, slice_get, filter_map}
use Rattle.std.specs.List.{enumerate_from}
use Rattle.spec_terms.specs.Term.{Term}
use Rattle.spec_clauses.specs.Selection.{Selection}
use Rattle.spec_fingerprints.specs.Fingerprints.{fingerprint_of}
use Rattle.spec_derivations.specs.Choice.{at_place}
use Rattle.clause_form.specs.Seen.{clause_at, IdClause}
use Rattle.fact_fingerprint.specs.Seen.{fingerprint_seen}
use Rattle.cert_stages.specs.declared.unsolved.Unsolved.{Unsolved}

-- the place of the hypothesis that a number chooses, if it does
abbrev pub place_chosen : ℕ → Option ℕ
place_chosen zero = None
place_chosen (suc at) = Some at

-- a place with it, for a number that stands there
abbrev pub unsolved_at : ℕ × ℕ → Option (ℕ × ℕ)
unsolved_at n = option_map (λ at. (n.0, at)) (place_chosen n.1)

-- of numbers that stand from that place on, those that choose: their places and what they choose, in their order
abbrev pub unsolved_from : ℕ → List ℕ → List (ℕ × ℕ)
unsolved_from place numbers = filter_map unsolved_at (enumerate_from place numbers)

abbrev pub places_of : Unsolved → ℕ × ℕ
places_of u = (u.place, u.at)

-- The clause stands at its place, its number chooses the hypothesis, and the fingerprint is that of it.
pub record IsUnsolvedOne (all : List Term) (cs : List IdClause) (numbers : List ℕ) (u : Unsolved) : Type 0 where
  pub within : u.place < length cs
  pub chosen : slice_get numbers u.place ≡ Some (suc u.at)
  pub print : (c : IdClause) (at : Selection) → slice_get cs u.place ≡ Some c → at_place (clause_at all c).hypotheses u.at ≡ Some at → fingerprint_seen u.print ≡ fingerprint_of at.fact
