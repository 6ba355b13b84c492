-- The certificates of the grammar, whatever their words name, and which may be written by a table.
use Rattle.std.specs.Prelude.{◌≡◌, ℕ, ◌≤◌, ◌⊎◌, IfSome, List, length}
use Rattle.std.specs.List.{AllByRecursion}
use Rattle.spec_calculus.specs.Bounds.{most_clauses}
use Rattle.spec_calculus.specs.Syntax.{Protocol}
use Rattle.spec_clauses.specs.Fact.{ClauseOf}
use Rattle.spec_clauses.specs.Fact as fact
use Rattle.spec_certificates.specs.Certificate.{Certificate}
use Rattle.spec_certificate_text.specs.Loose.{Head, Applied, Tupled, Made, Attackers}
use Rattle.spec_certificate_text.specs.Spelled.{IsWord, IsBoundWord, AreDigits}
use Rattle.spec_certificate_text.specs.OfProtocol.{IsCertificateOf}
use Rattle.spec_certificate_text.specs.Readable.{IsRow}
use Rattle.spec_node_tables.specs.Large.{FitsInNodes}
use Rattle.spec_node_faults.specs.Loose.{LooseNode, Predicate, Att, Mess, Tab, Ev, Mev, Bad, LooseFact, LooseDiff, LooseClause, LooseCertificate}

-- digits, one at least
abbrev pub IsNumber : List ℕ → Type 0
IsNumber digits = AreDigits digits × (1 ≤ length digits)

-- a head before so many numbers: behind a bound variable there are none, and behind `@` just one
abbrev pub IsHeadOf : Head → ℕ → Type 0
IsHeadOf (Applied word) n = IsWord word ⊎ (IsBoundWord word × (n ≡ 0))
IsHeadOf Tupled n = Unit {0}
IsHeadOf (Made word digits) n = IsWord word × IsNumber digits
IsHeadOf Attackers n = n ≡ 1

pub record IsNode (n : LooseNode) : Type 0 where
  pub head : IsHeadOf n.head (length n.numbers)
  pub numbers : AllByRecursion IsNumber n.numbers

-- a predicate over so many numbers
abbrev pub IsPredicateOf : Predicate → ℕ → Type 0
IsPredicateOf (Att phase) n = IfSome phase IsNumber × (n ≡ 1)
IsPredicateOf (Mess phase) n = IfSome phase IsNumber × (n ≡ 2)
IsPredicateOf (Tab word) n = IsWord word
IsPredicateOf (Ev word) n = IsWord word
IsPredicateOf (Mev word) n = IsWord word
IsPredicateOf Bad n = Unit {0}

-- `bad` is no hypothesis, and `mev` no conclusion

abbrev pub MayBeSupposed : Predicate → Type 0
MayBeSupposed Bad = ⊥
MayBeSupposed _ = Unit {0}

abbrev pub MayBeConcluded : Predicate → Type 0
MayBeConcluded (Mev word) = ⊥
MayBeConcluded _ = Unit {0}

pub record IsHypothesis (f : LooseFact) : Type 0 where
  pub predicate : IsPredicateOf f.predicate (length f.numbers)
  pub numbers : AllByRecursion IsNumber f.numbers
  pub supposed : MayBeSupposed f.predicate

pub record IsConclusion (f : LooseFact) : Type 0 where
  pub predicate : IsPredicateOf f.predicate (length f.numbers)
  pub numbers : AllByRecursion IsNumber f.numbers
  pub concluded : MayBeConcluded f.predicate

-- numbers, one at least, on each side
pub record IsDiff (d : LooseDiff) : Type 0 where
  pub left_some : 1 ≤ length d.left
  pub right_some : 1 ≤ length d.right
  pub left : AllByRecursion IsNumber d.left
  pub right : AllByRecursion IsNumber d.right

pub record IsClause (c : LooseClause) : Type 0 where
  pub hypotheses : AllByRecursion IsHypothesis c.hypotheses
  pub diffs : AllByRecursion IsDiff c.diffs
  pub conclusion : IsConclusion c.conclusion

-- a row has one number at least
pub record IsNumberRow (ds : List (List ℕ)) : Type 0 where
  pub some : 1 ≤ length ds
  pub numbers : AllByRecursion IsNumber ds

pub record IsInGrammar (c : LooseCertificate) : Type 0 where
  pub nodes : AllByRecursion IsNode c.nodes
  pub clauses : AllByRecursion IsClause c.clauses
  pub rows : AllByRecursion IsNumberRow c.rows
  pub goals : AllByRecursion IsNumberRow c.goals

-- Certificates that may be written by a table.

abbrev pub MayBeHypothesis : {X : Type 0} → fact.Fact X → Type 0
MayBeHypothesis (fact.Bad ts) = ⊥
MayBeHypothesis _ = Unit {0}

abbrev pub MayBeConclusion : {X : Type 0} → fact.Fact X → Type 0
MayBeConclusion (fact.Mev e ts) = ⊥
MayBeConclusion _ = Unit {0}

pub record StandsRight {X D : Type 0} (c : ClauseOf X D) : Type 0 where
  pub hypotheses : AllByRecursion MayBeHypothesis c.hypotheses
  pub conclusion : MayBeConclusion c.conclusion

-- a certificate of the protocol, of which the nodes and clauses are within the limits, with no more clauses than the limit, and with a number
-- in each row
pub record IsNumberable (P : Protocol) (c : Certificate) : Type 0 where
  pub is : IsCertificateOf P c
  pub stands : AllByRecursion StandsRight c.clauses
  pub fits : FitsInNodes c.clauses
  pub few : length c.clauses ≤ most_clauses
  pub rows : AllByRecursion IsRow c.rows
  pub goals : AllByRecursion IsRow c.goals
