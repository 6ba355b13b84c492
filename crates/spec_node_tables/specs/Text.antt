-- The text of a certificate by numbers: its nodes, each on a line, its clauses with numbers for terms, and its rows. Each text is a
-- function of what follows it.
use Rattle.std.specs.Prelude.{ℕ, List, [], ◌∷◌, ◌++◌, codes}
use Rattle.std.specs.Fmt.{decimal}
use Rattle.spec_calculus.specs.Syntax.{Declared, Protocol}
use Rattle.spec_terms.specs.Term.{Sym, Ctor, Data, Tuple, Free, Point, Attacker}
use Rattle.spec_clauses.specs.Fact.{Fact, Att, Mess, Tab, Ev, Mev, Bad}
use Rattle.spec_certificates.specs.Certificate.{Certificate}
use Rattle.spec_certificate_text.specs.Loose.{Head, Applied, Tupled, Made, Attackers}
use Rattle.spec_certificate_text.specs.Sides.{variable_word, SidesOf, SpelledClause}
use Rattle.spec_certificate_text.specs.Words.{declared_word, symbol_word}
use Rattle.spec_certificate_text.specs.Text.{phase_text, numbers_text, row_lines}
use Rattle.spec_node_tables.specs.Nodes.{TableNode, Variable, Over, NodeCertificate, with_nodes}

-- Facts and clauses whose terms have a text of their own: that of a term (what `one` is), or a number.
module _ {X : Type 0} (one : X → List ℕ → List ℕ) (P : Protocol) where
  -- terms, a comma before each; and a comma between each two
  abbrev pub later_terms : List X → List ℕ → List ℕ
  later_terms [] rest = rest
  later_terms (t ∷ ts) rest = 44 ∷ one t (later_terms ts rest)

  abbrev pub terms_text : List X → List ℕ → List ℕ
  terms_text [] rest = rest
  terms_text (t ∷ ts) rest = one t (later_terms ts rest)

  -- a word over terms: without any it stands alone
  abbrev pub word_over : List ℕ → List X → List ℕ → List ℕ
  word_over word [] rest = word ++ rest
  word_over word (t ∷ ts) rest = word ++ (40 ∷ terms_text (t ∷ ts) (41 ∷ rest))

  -- one of these declarations over terms
  abbrev pub call_over : List Declared → ℕ → List X → List ℕ → List ℕ
  call_over declarations n ts rest = word_over (declared_word declarations n) ts rest

  -- an event, and an entry of a table
  abbrev pub event_over : ℕ → List X → List ℕ → List ℕ
  event_over e ts rest = call_over P.events e ts rest

  abbrev pub entry_over : ℕ → List X → List ℕ → List ℕ
  entry_over table ts rest = call_over P.tables table ts rest

  -- a predicate with its phase, over what it speaks of
  abbrev pub fact_over : Fact X → List ℕ → List ℕ
  fact_over (Att phase t) rest = codes "att" ++ phase_text phase (40 ∷ terms_text (t ∷ []) (41 ∷ rest))
  fact_over (Mess phase t u) rest = codes "mess" ++ phase_text phase (40 ∷ terms_text (t ∷ u ∷ []) (41 ∷ rest))
  fact_over (Tab table ts) rest = codes "tab(" ++ entry_over table ts (41 ∷ rest)
  fact_over (Ev e ts) rest = codes "ev(" ++ event_over e ts (41 ∷ rest)
  fact_over (Mev e ts) rest = codes "mev(" ++ event_over e ts (41 ∷ rest)
  fact_over (Bad ts) rest = codes "bad(" ++ terms_text ts (41 ∷ rest)

  -- a constraint: its left sides and its right sides, a comma between each two
  abbrev pub sides_over : SidesOf X → List ℕ → List ℕ
  sides_over d rest = codes "diff(" ++ terms_text d.left (59 ∷ terms_text d.right (41 ∷ rest))

  -- constraints behind a hypothesis or a constraint, a comma and a space before each, and a space behind the last
  abbrev pub later_diffs : List (SidesOf X) → List ℕ → List ℕ
  later_diffs [] rest = 32 ∷ rest
  later_diffs (d ∷ ds) rest = 44 ∷ 32 ∷ sides_over d (later_diffs ds rest)

  -- constraints with no hypotheses before them; of none, nothing
  abbrev pub diffs_over : List (SidesOf X) → List ℕ → List ℕ
  diffs_over [] rest = rest
  diffs_over (d ∷ ds) rest = sides_over d (later_diffs ds rest)

  -- hypotheses behind the first, a comma and a space before each, and then the constraints
  abbrev pub later_hypotheses : List (Fact X) → List (SidesOf X) → List ℕ → List ℕ
  later_hypotheses [] ds rest = later_diffs ds rest
  later_hypotheses (h ∷ hs) ds rest = 44 ∷ 32 ∷ fact_over h (later_hypotheses hs ds rest)

  -- hypotheses, and then constraints
  abbrev pub hypotheses_over : List (Fact X) → List (SidesOf X) → List ℕ → List ℕ
  hypotheses_over [] ds rest = diffs_over ds rest
  hypotheses_over (h ∷ hs) ds rest = fact_over h (later_hypotheses hs ds rest)

  -- a clause: its hypotheses, its constraints, `=> `, and its conclusion
  abbrev pub clause_over : SpelledClause X → List ℕ → List ℕ
  clause_over c rest = hypotheses_over c.hypotheses c.diffs (61 ∷ 62 ∷ 32 ∷ fact_over c.conclusion rest)

  -- `c ` and a clause on a line of its own, for each clause
  abbrev pub clause_lines_over : List (SpelledClause X) → List ℕ → List ℕ
  clause_lines_over [] rest = rest
  clause_lines_over (c ∷ cs) rest = 99 ∷ 32 ∷ clause_over c (10 ∷ clause_lines_over cs rest)

-- a number, in decimal digits
abbrev pub number_text : ℕ → List ℕ → List ℕ
number_text n rest = decimal n ++ rest

-- What a node has before the numbers of its arguments: a word, `()`, a word and the point of a restriction, or `@`.
abbrev pub symbol_head : Protocol → Sym → Head
symbol_head P (Ctor f) = Applied (symbol_word P (Ctor f))
symbol_head P (Data f) = Applied (symbol_word P (Data f))
symbol_head P (Tuple parts) = Tupled
symbol_head P (Free name) = Applied (symbol_word P (Free name))
symbol_head P (Point point) = Made (symbol_word P (Point point)) (decimal point)
symbol_head P Attacker = Attackers

-- a variable's word stands alone
abbrev pub node_head : Protocol → TableNode → Head
node_head P (Variable x) = Applied (variable_word x)
node_head P (Over f ns) = symbol_head P f

abbrev pub head_text : Head → List ℕ → List ℕ
head_text (Applied word) rest = word ++ rest
head_text Tupled rest = 40 ∷ 41 ∷ rest
head_text (Made word digits) rest = word ++ (64 ∷ (digits ++ rest))
head_text Attackers rest = 64 ∷ rest

abbrev pub node_numbers : TableNode → List ℕ
node_numbers (Variable x) = []
node_numbers (Over f ns) = ns

-- a node: its head, and a space before each number
abbrev pub node_text : Protocol → TableNode → List ℕ → List ℕ
node_text P n rest = head_text (node_head P n) (numbers_text (node_numbers n) rest)

-- `n ` and a node on a line of its own, for each node
abbrev pub node_lines : Protocol → List TableNode → List ℕ → List ℕ
node_lines P [] rest = rest
node_lines P (n ∷ ns) rest = 110 ∷ 32 ∷ node_text P n (10 ∷ node_lines P ns rest)

-- a certificate by numbers: its first line, its nodes, its clauses, its cover rows behind `r`, its goal rows behind `g`, and its last line
abbrev pub numbered_text : Protocol → NodeCertificate → List ℕ → List ℕ
numbered_text P c rest =
    codes "cert 2\n" ++ node_lines P c.nodes (clause_lines_over number_text P c.clauses (row_lines 114 c.rows (row_lines 103 c.goals (codes "end\n" ++ rest))))

-- a certificate, by its table
abbrev pub text_with_nodes : Protocol → Certificate → List ℕ → List ℕ
text_with_nodes P c rest = numbered_text P (with_nodes c) rest
