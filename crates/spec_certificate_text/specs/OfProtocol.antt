-- What is of a protocol: each number in it is there, each symbol has its number of arguments, and no phase is past the greatest.
-- Only what a text spells is.
use Rattle.std.specs.Prelude.{◌≡◌, ℕ, ◌+◌, ◌<◌, ◌≤◌, ◌^◌, Bool, true, false, cond, Some, List, length}
use Rattle.std.specs.List.{AllByRecursion}
use Rattle.spec_trees.specs.Tree.{Trees, Leaf, Node, none, more, trees, items_of}
use Rattle.spec_calculus.specs.Bounds.{most_digits, most_arguments}
use Rattle.spec_calculus.specs.Syntax.{Declared, Process, New, Protocol}
use Rattle.spec_calculus.specs.Points.{numbered, nodes, name_arguments, greatest_phase}
use Rattle.spec_terms.specs.Term.{Sym, Ctor, Data, Tuple, Free, Point, Attacker, Term}
use Rattle.spec_clauses.specs.Diff.{Slot, Own, Bound, Diff, sides, side_slots}
use Rattle.spec_clauses.specs.Fact.{Fact, Att, Mess, Tab, Ev, Mev, Bad, Clause}
use Rattle.spec_well_formed.specs.Words.{HasDistinctWords}
use Rattle.spec_protocol_scope.specs.Words.{HasWords}
use Rattle.spec_certificates.specs.Certificate.{Certificate}
use Rattle.spec_certificate_text.specs.Sides.{first_bound, spelled_diff}

-- a declaration of that number is there
pub record IsDeclared (declarations : List Declared) (number : ℕ) : Type 0 where
  pub declared : Declared
  pub there : numbered declarations number ≡ Some declared

-- so is one of that number of arguments, a data constructor or none
pub record IsConstructor (P : Protocol) (is_data : Bool) (number arguments : ℕ) : Type 0 where
  pub declared : Declared
  pub there : numbered P.constructors number ≡ Some declared
  pub data_is : declared.is_data ≡ is_data
  pub arity : declared.arity ≡ arguments

-- so is one that takes so many arguments
pub record IsDeclaredOver (declarations : List Declared) (number arguments : ℕ) : Type 0 where
  pub declared : Declared
  pub there : numbered declarations number ≡ Some declared
  pub arity : declared.arity ≡ arguments

abbrev pub IsEvent : Protocol → ℕ → ℕ → Type 0
IsEvent P number arguments = IsDeclaredOver P.events number arguments

abbrev pub IsTable : Protocol → ℕ → ℕ → Type 0
IsTable P number arguments = IsDeclaredOver P.tables number arguments

-- a restriction stands at the point, and its names have so many arguments
pub record IsRestriction (P : Protocol) (point arguments : ℕ) : Type 0 where
  pub word : List ℕ
  pub next : Process
  pub there : numbered (nodes P.main) point ≡ Some (New word next)
  pub arity : numbered (name_arguments 0 P.main) point ≡ Some arguments

-- a number within the limit of digits
abbrev pub IsShort : ℕ → Type 0
IsShort n = n < 10 ^ most_digits

-- the symbol is one of the protocol's, and has so many arguments
abbrev pub IsSymbolOf : Protocol → Sym → ℕ → Type 0
IsSymbolOf P (Ctor f) n = IsConstructor P false f n
IsSymbolOf P (Data f) n = IsConstructor P true f n
IsSymbolOf P (Tuple parts) n = (parts ≡ n) × (2 ≤ n) × (n ≤ most_arguments)
IsSymbolOf P (Free name) n = IsDeclared P.frees name × (n ≡ 0)
IsSymbolOf P (Point point) n = IsRestriction P point n × IsShort point
IsSymbolOf P Attacker n = n ≡ 1

-- a term whose variables are below a number
abbrev mutual
  pub IsTermBelow : ℕ → Protocol → Term → Type 0
  IsTermBelow most P (Leaf x) = x < most
  IsTermBelow most P (Node f arguments) = IsSymbolOf P f (length (items_of arguments)) × AreTermsBelow most P arguments

  pub AreTermsBelow : ℕ → Protocol → Trees ℕ Sym → Type 0
  AreTermsBelow most P none = Unit {0}
  AreTermsBelow most P (more t ts) = IsTermBelow most P t × AreTermsBelow most P ts

-- a term of a fact
abbrev pub IsTermOf : Protocol → Term → Type 0
IsTermOf P t = IsTermBelow (10 ^ most_digits) P t

abbrev pub AreTermsOf : Protocol → Trees ℕ Sym → Type 0
AreTermsOf P ts = AreTermsBelow (10 ^ most_digits) P ts

-- a side of a constraint, in terms: the bound variables stand behind the others
abbrev pub most_side_variables : ℕ
most_side_variables = first_bound + first_bound

-- the variables of a side are below that, those of a fact's term within the limit of digits
abbrev pub most_variables : Bool → ℕ
most_variables binds = cond binds most_side_variables first_bound

abbrev pub AreSidesOf : Protocol → Trees ℕ Sym → Type 0
AreSidesOf P ts = AreTermsBelow most_side_variables P ts

-- a variable of the clause has a number within the limit of digits
abbrev pub IsOwnShort : Slot → Type 0
IsOwnShort (Own x) = IsShort x
IsOwnShort (Bound i) = Unit {0}

-- as many left sides as right sides, one at least
pub record IsDiffOf (P : Protocol) (d : Diff) : Type 0 where
  pub left : AreSidesOf P (trees (spelled_diff d).left)
  pub right : AreSidesOf P (trees (spelled_diff d).right)
  pub own : AllByRecursion IsOwnShort (side_slots (sides d))
  pub paired : length d.left ≡ length d.right
  pub some : 0 < length d.left

-- a phase that the protocol has, within the limit of digits
abbrev pub IsPhase : Protocol → ℕ → Type 0
IsPhase P k = (k ≤ greatest_phase P.main) × IsShort k

abbrev pub IsFactOf : Protocol → Fact Term → Type 0
IsFactOf P (Att k t) = IsPhase P k × IsTermOf P t
IsFactOf P (Mess k t u) = IsPhase P k × IsTermOf P t × IsTermOf P u
IsFactOf P (Tab table arguments) = IsTable P table (length arguments) × AreTermsOf P (trees arguments)
IsFactOf P (Ev event arguments) = IsEvent P event (length arguments) × AreTermsOf P (trees arguments)
IsFactOf P (Mev event arguments) = IsEvent P event (length arguments) × AreTermsOf P (trees arguments)
IsFactOf P (Bad arguments) = AreTermsOf P (trees arguments)

pub record IsClauseOf (P : Protocol) (c : Clause Term) : Type 0 where
  pub hypotheses : AllByRecursion (IsFactOf P) c.hypotheses
  pub diffs : AllByRecursion (IsDiffOf P) c.diffs
  pub conclusion : IsFactOf P c.conclusion

-- its clauses are of the protocol, and its numbers are within the limit of digits
pub record IsCertificateOf (P : Protocol) (cert : Certificate) : Type 0 where
  pub clauses : AllByRecursion (IsClauseOf P) cert.clauses
  pub rows : AllByRecursion (AllByRecursion IsShort) cert.rows
  pub goals : AllByRecursion (AllByRecursion IsShort) cert.goals

-- what the words of every protocol that bytes spell are: identifiers, none of a free name or a constructor as a variable's, and no two
-- declared names have one
pub record HasNames (P : Protocol) : Type 0 where
  pub words : HasWords P
  pub distinct : HasDistinctWords P
