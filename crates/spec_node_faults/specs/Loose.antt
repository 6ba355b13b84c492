-- Certificates by numbers as they stand in a text: their words and digits, and how many numbers stand where, are left open.
use Rattle.std.specs.Prelude.{ℕ, zero, suc, Option, None, Some, List, [], ◌∷◌, ◌++◌, map, codes}
use Rattle.std.specs.Fmt.{decimal}
use Rattle.spec_calculus.specs.Syntax.{Protocol}
use Rattle.spec_clauses.specs.Fact.{Fact, terms_of}
use Rattle.spec_clauses.specs.Fact as fact
use Rattle.spec_certificate_text.specs.Loose.{Head}
use Rattle.spec_certificate_text.specs.Sides.{SidesOf, SpelledClause}
use Rattle.spec_certificate_text.specs.Words.{event_word, table_word}
use Rattle.spec_node_tables.specs.Nodes.{TableNode, NodeCertificate}
use Rattle.spec_node_tables.specs.Text.{node_head, head_text, node_numbers}

-- a node: its head, and the digits of each number behind it
pub record LooseNode : Type 0 where
  pub head : Head
  pub numbers : List (List ℕ)

-- a predicate; one that may have a phase has its digits, or none; one of a table or an event has the word of it
pub data Predicate : Type 0 where
  Att : (phase : Option (List ℕ)) → Predicate
  Mess : (phase : Option (List ℕ)) → Predicate
  Tab : (word : List ℕ) → Predicate
  Ev : (word : List ℕ) → Predicate
  Mev : (word : List ℕ) → Predicate
  Bad : Predicate

pub record LooseFact : Type 0 where
  pub predicate : Predicate
  pub numbers : List (List ℕ)

-- a constraint: the digits of its left sides and of its right sides
pub record LooseDiff : Type 0 where
  pub left : List (List ℕ)
  pub right : List (List ℕ)

pub record LooseClause : Type 0 where
  pub hypotheses : List LooseFact
  pub diffs : List LooseDiff
  pub conclusion : LooseFact

pub record LooseCertificate : Type 0 where
  pub nodes : List LooseNode
  pub clauses : List LooseClause
  pub rows : List (List (List ℕ))
  pub goals : List (List (List ℕ))

-- Each text is a function of what follows it.

-- digits, a space before each
abbrev pub spaced : List (List ℕ) → List ℕ → List ℕ
spaced [] rest = rest
spaced (d ∷ ds) rest = 32 ∷ (d ++ spaced ds rest)

-- digits, a comma before each; and a comma between each two
abbrev pub later_numbers : List (List ℕ) → List ℕ → List ℕ
later_numbers [] rest = rest
later_numbers (d ∷ ds) rest = 44 ∷ (d ++ later_numbers ds rest)

abbrev pub commas : List (List ℕ) → List ℕ → List ℕ
commas [] rest = rest
commas (d ∷ ds) rest = d ++ later_numbers ds rest

abbrev pub node_onto : LooseNode → List ℕ → List ℕ
node_onto n rest = head_text n.head (spaced n.numbers rest)

-- a line: its letter, a space and the node
abbrev pub node_line : LooseNode → List ℕ → List ℕ
node_line n rest = 110 ∷ 32 ∷ node_onto n (10 ∷ rest)

-- the digits of a phase behind `@`, or nothing
abbrev pub phase_onto : Option (List ℕ) → List ℕ → List ℕ
phase_onto None rest = rest
phase_onto (Some digits) rest = 64 ∷ (digits ++ rest)

-- an event or an entry over numbers: without any, its word stands alone
abbrev pub event_onto : List ℕ → List (List ℕ) → List ℕ → List ℕ
event_onto word [] rest = word ++ rest
event_onto word (d ∷ ds) rest = word ++ (40 ∷ commas (d ∷ ds) (41 ∷ rest))

abbrev pub predicate_onto : Predicate → List (List ℕ) → List ℕ → List ℕ
predicate_onto (Att phase) ds rest = codes "att" ++ phase_onto phase (40 ∷ commas ds (41 ∷ rest))
predicate_onto (Mess phase) ds rest = codes "mess" ++ phase_onto phase (40 ∷ commas ds (41 ∷ rest))
predicate_onto (Tab word) ds rest = codes "tab(" ++ event_onto word ds (41 ∷ rest)
predicate_onto (Ev word) ds rest = codes "ev(" ++ event_onto word ds (41 ∷ rest)
predicate_onto (Mev word) ds rest = codes "mev(" ++ event_onto word ds (41 ∷ rest)
predicate_onto Bad ds rest = codes "bad(" ++ commas ds (41 ∷ rest)

abbrev pub fact_onto : LooseFact → List ℕ → List ℕ
fact_onto f rest = predicate_onto f.predicate f.numbers rest

abbrev pub diff_onto : LooseDiff → List ℕ → List ℕ
diff_onto d rest = codes "diff(" ++ commas d.left (59 ∷ commas d.right (41 ∷ rest))

-- constraints behind a hypothesis or a constraint, and what stands before the conclusion
abbrev pub later_diffs : List LooseDiff → List ℕ → List ℕ
later_diffs [] rest = 32 ∷ rest
later_diffs (d ∷ ds) rest = 44 ∷ 32 ∷ diff_onto d (later_diffs ds rest)

abbrev pub diffs_onto : List LooseDiff → List ℕ → List ℕ
diffs_onto [] rest = rest
diffs_onto (d ∷ ds) rest = diff_onto d (later_diffs ds rest)

-- hypotheses behind the first, and then the constraints
abbrev pub later_onto : List LooseFact → List LooseDiff → List ℕ → List ℕ
later_onto [] ds rest = later_diffs ds rest
later_onto (h ∷ hs) ds rest = 44 ∷ 32 ∷ fact_onto h (later_onto hs ds rest)

abbrev pub hypotheses_onto : List LooseFact → List LooseDiff → List ℕ → List ℕ
hypotheses_onto [] ds rest = diffs_onto ds rest
hypotheses_onto (h ∷ hs) ds rest = fact_onto h (later_onto hs ds rest)

abbrev pub clause_line : LooseClause → List ℕ → List ℕ
clause_line c rest = 99 ∷ 32 ∷ hypotheses_onto c.hypotheses c.diffs (61 ∷ 62 ∷ 32 ∷ fact_onto c.conclusion (10 ∷ rest))

abbrev pub row_line : ℕ → List (List ℕ) → List ℕ → List ℕ
row_line letter ds rest = letter ∷ spaced ds (10 ∷ rest)

-- lines of one kind
abbrev pub lines : {A : Type 0} → (A → List ℕ → List ℕ) → List A → List ℕ → List ℕ
lines line [] rest = rest
lines line (x ∷ xs) rest = line x (lines line xs rest)

abbrev pub certificate_onto : LooseCertificate → List ℕ → List ℕ
certificate_onto c rest =
    codes "cert 2\n" ++ lines node_line c.nodes (lines clause_line c.clauses (lines (row_line 114) c.rows (lines (row_line 103) c.goals (codes "end\n" ++ rest))))

-- A certificate by numbers, written so with the words of a protocol.

abbrev pub written_node : Protocol → TableNode → LooseNode
written_node P n = record { head = node_head P n; numbers = map decimal (node_numbers n) }

-- phase 0 has no digits
abbrev pub phase_digits : ℕ → Option (List ℕ)
phase_digits zero = None
phase_digits (suc k) = Some (decimal (suc k))

abbrev pub predicate_of : Protocol → Fact ℕ → Predicate
predicate_of P (fact.Att phase n) = Att (phase_digits phase)
predicate_of P (fact.Mess phase m n) = Mess (phase_digits phase)
predicate_of P (fact.Tab table ns) = Tab (table_word P table)
predicate_of P (fact.Ev e ns) = Ev (event_word P e)
predicate_of P (fact.Mev e ns) = Mev (event_word P e)
predicate_of P (fact.Bad ns) = Bad

abbrev pub written_fact : Protocol → Fact ℕ → LooseFact
written_fact P f = record { predicate = predicate_of P f; numbers = map decimal (terms_of f) }

abbrev pub written_diff : SidesOf ℕ → LooseDiff
written_diff s = record { left = map decimal s.left; right = map decimal s.right }

abbrev pub written_clause : Protocol → SpelledClause ℕ → LooseClause
written_clause P c = record { hypotheses = map (written_fact P) c.hypotheses; diffs = map written_diff c.diffs; conclusion = written_fact P c.conclusion }

abbrev pub written : Protocol → NodeCertificate → LooseCertificate
written P c = record {
  nodes = map (written_node P) c.nodes;
  clauses = map (written_clause P) c.clauses;
  rows = map (map decimal) c.rows;
  goals = map (map decimal) c.goals;
}
