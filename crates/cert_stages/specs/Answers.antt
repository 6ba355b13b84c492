-- What is answered of each stage.
use Rattle.std.specs.Prelude.{◌≡◌, ◌⊎◌, ℕ, ◌+◌, Bool, Option, Some, None, List, [], ◌∷◌, drop, slice_get, flat_map}
use Rattle.std.specs.List.{AllByRecursion}
use Rattle.spec_terms.specs.Term.{Term}
use Rattle.spec_clauses.specs.Fact.{Clause}
use Rattle.spec_clauses.specs.Selection.{Selection}
use Rattle.spec_derivations.specs.Choice.{IsRight}
use Rattle.spec_certificates.specs.Certificate.{Numbered, numbered_from, number_beside, by_numbers, Pair, pairs_with, pairs_of_resting}
use Rattle.spec_certificates.specs.Ruling.{Ruling, Closure}
use Rattle.clause_form.specs.Fit.{clauses_at}
use Rattle.clause_form.specs.Seen.{IdClause}
use Rattle.cert_stages.specs.Stages.{Shows, AreShown, FirstUnshown, AreClosed, FirstOpen}
use Rattle.cert_stages.specs.declared.shown.OpenPair.{OpenPair}
use Rattle.cert_stages.specs.declared.shown.Shown as shown
use Rattle.cert_stages.specs.declared.shown.Shown.TheVariants as shown_so
use Rattle.cert_stages.specs.declared.shown.Closed as closed
use Rattle.cert_stages.specs.declared.shown.Closed.TheVariants as closed_so

-- with their numbers
abbrev pub numbered_at : List Term → List IdClause → List Numbered
numbered_at all cs = numbered_from 1 (clauses_at all cs)

-- the rows from a place on show that of the clauses, or not
abbrev pub IsShownSo : Shows → List Numbered → List (List ℕ) → ℕ → shown.Shown → Type 0
IsShownSo S cs rows from (shown_so.All next) = AreShown S cs (drop from rows) (drop next rows)
IsShownSo S cs rows from (shown_so.Except number) = FirstUnshown S cs (drop from rows) number

-- what is ruled of a pair that rows leave open
abbrev pub closure_of : OpenPair → Ruling
closure_of pair = Closure pair.solved pair.unsolved pair.resolvent

-- the rows from a place on close the pairs, or not
abbrev pub IsClosedSo : List (Clause Term) → List Pair → List (List ℕ) → ℕ → closed.Closed → Type 0
IsClosedSo clauses ps rows from (closed_so.All next) = AreClosed clauses ps (drop from rows) (drop next rows)
IsClosedSo clauses ps rows from (closed_so.Except pair) = FirstOpen clauses ps (drop from rows) (closure_of pair)

-- what comes of the pair of the clauses at these places where that is shown of its resolvents
abbrev pub where_shown : ℕ → ℕ → shown.Shown → closed.Closed
where_shown i j (shown_so.All next) = closed_so.All next
where_shown i j (shown_so.Except number) = closed_so.Except (record { solved = i + 1; unsolved = j + 1; resolvent = number })

-- of numbers beside clauses, whether one rests, what is chosen of each, and that all are right
abbrev pub rests_by : List ℕ → Numbered → Bool
rests_by numbers = (by_numbers numbers).rests

abbrev pub chosen_by : List ℕ → Numbered → Option Selection
chosen_by numbers = (by_numbers numbers).chosen

abbrev pub AreRight : List ℕ → List Numbered → Type 0
AreRight numbers cs = AllByRecursion (λ c. IsRight c.clause (number_beside numbers c)) cs

-- they are, or the clause of that number is the first of which it isn't
abbrev pub FirstWrong : List ℕ → List Numbered → ℕ → Type 0
FirstWrong numbers [] number = ⊥
FirstWrong numbers (c ∷ cs) number =
    ((IsRight c.clause (number_beside numbers c) → ⊥) × (number ≡ c.number)) ⊎ (IsRight c.clause (number_beside numbers c) × FirstWrong numbers cs number)

abbrev pub AreRightSo : List ℕ → List Numbered → Option ℕ → Type 0
AreRightSo numbers cs None = AreRight numbers cs
AreRightSo numbers cs (Some number) = FirstWrong numbers cs number

-- the pair of two clauses, if a hypothesis of the second is chosen; of a clause with all; of a clause, if it rests, with all
abbrev pub pairs_of_two : (Numbered → Option Selection) → Option Numbered → Option Numbered → List Pair
pairs_of_two chosen (Some i) (Some j) = pairs_with i (chosen j) j
pairs_of_two chosen i j = []

abbrev pub pairs_with_all : (Numbered → Option Selection) → Option Numbered → List Numbered → List Pair
pairs_with_all chosen (Some i) all = flat_map (λ j. pairs_with i (chosen j) j) all
pairs_with_all chosen None all = []

abbrev pub pairs_if_resting : (Numbered → Option Selection) → Option Numbered → List Numbered → List Pair
pairs_if_resting chosen (Some i) all = pairs_of_resting chosen (chosen i) i all
pairs_if_resting chosen None all = []

-- of clauses with their numbers, the pair of the ones at these places, and the pairs of the one at this place
abbrev pub pair_at : (Numbered → Option Selection) → List Numbered → ℕ → ℕ → List Pair
pair_at chosen all i j = pairs_of_two chosen (slice_get all i) (slice_get all j)

abbrev pub pairs_at : (Numbered → Option Selection) → List Numbered → ℕ → List Pair
pairs_at chosen all i = pairs_with_all chosen (slice_get all i) all

abbrev pub pairs_at_resting : (Numbered → Option Selection) → List Numbered → ℕ → List Pair
pairs_at_resting chosen all i = pairs_if_resting chosen (slice_get all i) all
