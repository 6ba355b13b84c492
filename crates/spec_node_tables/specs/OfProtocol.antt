-- What is of a protocol, by numbers: each symbol and event is there and has its number of arguments, and each number is within the limit
-- of digits.
use Rattle.std.specs.Prelude.{◌≡◌, ◌<◌, length}
use Rattle.std.specs.List.{AllByRecursion}
use Rattle.spec_calculus.specs.Syntax.{Protocol}
use Rattle.spec_clauses.specs.Fact.{Fact, Att, Mess, Tab, Ev, Mev, Bad, terms_of}
use Rattle.spec_certificate_text.specs.OfProtocol.{IsShort, IsSymbolOf, IsEvent, IsTable, IsPhase, most_side_variables}
use Rattle.spec_certificate_text.specs.Sides.{SidesOf, SpelledClause}
use Rattle.spec_node_tables.specs.Nodes.{TableNode, Variable, Over, NodeCertificate}

abbrev pub IsNodeOf : Protocol → TableNode → Type 0
IsNodeOf P (Variable x) = x < most_side_variables
IsNodeOf P (Over f ns) = IsSymbolOf P f (length ns) × AllByRecursion IsShort ns

-- the predicate of a fact is one of the protocol: its phase is, and its event or table, where it speaks of one, takes as many arguments
abbrev pub HasPredicate : {X : Type 0} → Protocol → Fact X → Type 0
HasPredicate P (Att k t) = IsPhase P k
HasPredicate P (Mess k t u) = IsPhase P k
HasPredicate P (Tab table ts) = IsTable P table (length ts)
HasPredicate P (Ev e ts) = IsEvent P e (length ts)
HasPredicate P (Mev e ts) = IsEvent P e (length ts)
HasPredicate P (Bad ts) = Unit {0}

abbrev pub IsFactOver : {X : Type 0} → (X → Type 0) → Protocol → Fact X → Type 0
IsFactOver Is P f = HasPredicate P f × AllByRecursion Is (terms_of f)

-- as many left sides as right sides, one at least
pub record AreSidesOver {X : Type 0} (Is : X → Type 0) (s : SidesOf X) : Type 0 where
  pub left : AllByRecursion Is s.left
  pub right : AllByRecursion Is s.right
  pub paired : length s.left ≡ length s.right
  pub some : 0 < length s.left

pub record IsClauseOver {X : Type 0} (Is : X → Type 0) (P : Protocol) (c : SpelledClause X) : Type 0 where
  pub hypotheses : AllByRecursion (IsFactOver Is P) c.hypotheses
  pub diffs : AllByRecursion (AreSidesOver Is) c.diffs
  pub conclusion : IsFactOver Is P c.conclusion

pub record IsNodeCertificateOf (P : Protocol) (c : NodeCertificate) : Type 0 where
  pub nodes : AllByRecursion (IsNodeOf P) c.nodes
  pub clauses : AllByRecursion (IsClauseOver IsShort P) c.clauses
  pub rows : AllByRecursion (AllByRecursion IsShort) c.rows
  pub goals : AllByRecursion (AllByRecursion IsShort) c.goals
