-- Worked examples: small texts with faults at each place that a table has for them.
use Rattle.std.specs.Prelude.{◌≡◌, ℕ, None, Some, List, [], ◌∷◌, map, codes}
use Rattle.spec_calculus.specs.Syntax.{Protocol}
use Rattle.spec_certificate_text.specs.Loose.{Head, Applied, Tupled, Attackers}
use Rattle.spec_node_faults.specs.Loose.{LooseNode, Predicate, Att, Mess, Mev, Bad, LooseFact, LooseClause, LooseCertificate, certificate_onto}
use Rattle.spec_certificate_text.specs.Terms.{Code}
use Rattle.spec_node_faults.specs.Faults.{Fault, first_fault}

abbrev pub over : Head → List (List ℕ) → LooseNode
over head numbers = record { head = head; numbers = numbers }

abbrev pub alone : List ℕ → LooseNode
alone word = over (Applied word) []

abbrev pub of : Predicate → List (List ℕ) → LooseFact
of predicate numbers = record { predicate = predicate; numbers = numbers }

abbrev pub concludes : LooseFact → LooseClause
concludes f = record { hypotheses = []; diffs = []; conclusion = f }

abbrev pub from : List LooseFact → LooseFact → LooseClause
from hs f = record { hypotheses = hs; diffs = []; conclusion = f }

abbrev pub certificate : List LooseNode → List LooseClause → LooseCertificate
certificate nodes clauses = record { nodes = nodes; clauses = clauses; rows = []; goals = [] }

-- `(` and `)` over two numbers, and `enc` over them
abbrev pub pair : List ℕ → List ℕ → LooseNode
pair d e = over Tupled (d ∷ e ∷ [])

abbrev pub enc : List ℕ → List ℕ → LooseNode
enc d e = over (Applied (codes "enc")) (d ∷ e ∷ [])

-- the event of that word over these numbers must have run, and `bad()`
abbrev pub happened : List ℕ → List (List ℕ) → LooseClause
happened word numbers = from (of (Mev word) numbers ∷ []) (of Bad [])

-- `diff(..;..) => bad()` over these numbers
abbrev pub apart : List (List ℕ) → List (List ℕ) → LooseClause
apart left right = record { hypotheses = []; diffs = record { left = left; right = right } ∷ []; conclusion = of Bad [] }

-- n c, n v0, n @ 2, n v1, n s
abbrev pub silent_nodes : List LooseNode
silent_nodes = alone (codes "c") ∷ alone (codes "v0") ∷ over Attackers (codes "2" ∷ []) ∷ alone (codes "v1") ∷ alone (codes "s") ∷ []

-- c => att(1), c => att(3), c mess(4,2), att(4) => att(2), c att(2), att(4) => mess(2,4)
abbrev pub four_clauses : List LooseClause
four_clauses = concludes (of (Att None) (codes "1" ∷ []))
    ∷ concludes (of (Att None) (codes "3" ∷ []))
    ∷ from (of (Mess None) (codes "4" ∷ codes "2" ∷ []) ∷ of (Att None) (codes "4" ∷ []) ∷ []) (of (Att None) (codes "2" ∷ []))
    ∷ from (of (Att None) (codes "2" ∷ []) ∷ of (Att None) (codes "4" ∷ []) ∷ []) (of (Mess None) (codes "2" ∷ codes "4" ∷ [])) ∷ []

-- the last clause: c att(5) => bad()
abbrev pub last_clause : LooseClause
last_clause = from (of (Att None) (codes "5" ∷ []) ∷ []) (of Bad [])

abbrev pub fault : ℕ → Code → Fault
fault place code = record { place = place; code = code }

-- that text is the certificate's, and its first fault stands there
pub record Tells (P : Protocol) (c : LooseCertificate) (text : List ℕ) (place : ℕ) (code : Code) : Type 0 where
  pub spelled : certificate_onto c [] ≡ text
  pub first : first_fault P 0 c ≡ Some (fault place code)

-- `=> att(d)` for each number d
abbrev pub got : List (List ℕ) → List LooseClause
got numbers = map (λ d. concludes (of (Att None) (d ∷ []))) numbers

-- a certificate of nodes alone, and of nodes with clauses
abbrev pub nodes : List LooseNode → LooseCertificate
nodes ns = certificate ns []

abbrev pub c : LooseNode
c = alone (codes "c")

abbrev pub v0 : LooseNode
v0 = alone (codes "v0")

-- the tuple of a node twice
abbrev pub twice : List ℕ → LooseNode
twice digits = over Tupled (digits ∷ digits ∷ [])

-- thirteen nodes of two times the one before, the first of two times the first node of all
abbrev pub doubled : List LooseNode
doubled = map twice (codes "1" ∷ codes "2" ∷ codes "3" ∷ codes "4" ∷ codes "5" ∷ codes "6" ∷ codes "7" ∷ codes "8" ∷ codes "9" ∷ codes "10" ∷ codes "11" ∷ codes "12" ∷ codes "13" ∷ [])
