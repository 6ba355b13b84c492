-- What may stand in a certificate's text: terms and sides within the limit of levels, `bad` as a conclusion and `mev` as a hypothesis alone, rows
-- with a number, and no more clauses than the limit.
use Rattle.std.specs.Prelude.{◌≡◌, ℕ, ◌<◌, ◌≤◌, List, [], ◌∷◌, length}
use Rattle.std.specs.List.{AllByRecursion}
use Rattle.spec_trees.specs.Tree.{depth}
use Rattle.spec_calculus.specs.Bounds.{most_term_levels, most_clauses}
use Rattle.spec_calculus.specs.Syntax.{Protocol}
use Rattle.spec_terms.specs.Term.{Term}
use Rattle.spec_clauses.specs.Diff.{Diff, sides, side_slots}
use Rattle.spec_clauses.specs.Fact.{Fact, Att, Mess, Tab, Ev, Mev, Bad, Clause}
use Rattle.spec_certificates.specs.Certificate.{Certificate}
use Rattle.spec_certificate_text.specs.OfProtocol.{IsShort, IsPhase, IsEvent, IsTable, IsTermBelow, IsTermOf, most_side_variables, IsOwnShort}
use Rattle.spec_certificate_text.specs.Sides.{spelled_diff}

-- a term of the protocol that isn't too deep
abbrev pub MayStand : Protocol → Term → Type 0
MayStand P t = IsTermOf P t × (depth t ≤ most_term_levels)

abbrev pub IsHypothesisOf : Protocol → Fact Term → Type 0
IsHypothesisOf P (Att k t) = IsPhase P k × MayStand P t
IsHypothesisOf P (Mess k t u) = IsPhase P k × MayStand P t × MayStand P u
IsHypothesisOf P (Tab table arguments) = IsTable P table (length arguments) × AllByRecursion (MayStand P) arguments
IsHypothesisOf P (Ev event arguments) = IsEvent P event (length arguments) × AllByRecursion (MayStand P) arguments
IsHypothesisOf P (Mev event arguments) = IsEvent P event (length arguments) × AllByRecursion (MayStand P) arguments
IsHypothesisOf P (Bad arguments) = ⊥

abbrev pub IsConclusionOf : Protocol → Fact Term → Type 0
IsConclusionOf P (Att k t) = IsPhase P k × MayStand P t
IsConclusionOf P (Mess k t u) = IsPhase P k × MayStand P t × MayStand P u
IsConclusionOf P (Tab table arguments) = IsTable P table (length arguments) × AllByRecursion (MayStand P) arguments
IsConclusionOf P (Ev event arguments) = IsEvent P event (length arguments) × AllByRecursion (MayStand P) arguments
IsConclusionOf P (Mev event arguments) = ⊥
IsConclusionOf P (Bad arguments) = AllByRecursion (MayStand P) arguments

-- a side of a constraint
abbrev pub SideMayStand : Protocol → Term → Type 0
SideMayStand P t = IsTermBelow most_side_variables P t × (depth t ≤ most_term_levels)

-- a constraint of as many left sides as right sides, one at least
pub record IsReadableDiff (P : Protocol) (d : Diff) : Type 0 where
  pub left : AllByRecursion (SideMayStand P) (spelled_diff d).left
  pub right : AllByRecursion (SideMayStand P) (spelled_diff d).right
  pub own : AllByRecursion IsOwnShort (side_slots (sides d))
  pub paired : length d.left ≡ length d.right
  pub some : 0 < length d.left

-- a clause that may stand in a text
pub record IsReadable (P : Protocol) (c : Clause Term) : Type 0 where
  pub hypotheses : AllByRecursion (IsHypothesisOf P) c.hypotheses
  pub diffs : AllByRecursion (IsReadableDiff P) c.diffs
  pub conclusion : IsConclusionOf P c.conclusion

-- a row of numbers, of which there is one at least, within the limit of digits
abbrev pub IsRow : List ℕ → Type 0
IsRow [] = ⊥
IsRow (n ∷ ns) = IsShort n × AllByRecursion IsShort ns

-- a certificate of at most so many clauses that may stand in a text
pub record IsReadableWithin (most : ℕ) (P : Protocol) (c : Certificate) : Type 0 where
  pub clauses : AllByRecursion (IsReadable P) c.clauses
  pub few : length c.clauses ≤ most
  pub rows : AllByRecursion IsRow c.rows
  pub goals : AllByRecursion IsRow c.goals

abbrev pub IsReadableCertificate : Protocol → Certificate → Type 0
IsReadableCertificate P c = IsReadableWithin most_clauses P c
