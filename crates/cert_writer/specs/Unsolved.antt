-- The unsolved clauses among the live ones: the fingerprints of their selected hypotheses, and their places.
use Rattle.std.specs.Prelude.{◌≡◌, ℕ, suc, Option, Some, None, List, [], ◌∷◌, map, option_map}
use Rattle.spec_terms.specs.Term.{Term}
use Rattle.spec_fingerprints.specs.Fingerprints.{hypothesis_print}
use Rattle.clause_form.specs.Fit.{clauses_at}
use Rattle.clause_form.specs.Seen.{IdClause}
use Rattle.fact_fingerprint.specs.Seen.{fingerprint_seen}
use Rattle.cert_writer.specs.declared.closing.Unsolved.{Unsolved}

-- the places, counted from one on, at which there is something
abbrev pub some_places : {X : Type 0} → ℕ → List (Option X) → List ℕ
some_places n [] = []
some_places n (None ∷ xs) = some_places (suc n) xs
some_places n (Some x ∷ xs) = n ∷ some_places (suc n) xs

-- the fingerprints are those of the live clauses' selected hypotheses, and the places those of the clauses that have one
pub record AreUnsolved (all : List Term) (live : List IdClause) (unsolved : Unsolved) : Type 0 where
  pub prints : map (option_map fingerprint_seen) unsolved.prints.now ≡ map hypothesis_print (clauses_at all live)
  pub places : unsolved.places.now ≡ some_places 0 unsolved.prints.now
