-- A text by a table, and then the rest, is the text before this rest.
use Rattle.std.proofs.Common.{◌≡◌, ℕ, List, [], ◌∷◌, ◌++◌, drop, refl, ap, ◌∙◌, append_assoc}
use Rattle.std.specs.Prelude.{codes}
use Rattle.std.specs.Fmt.{decimal}
use Rattle.spec_calculus.specs.Syntax.{Declared, Protocol}
use Rattle.spec_clauses.specs.Fact.{Fact, Att, Mess, Tab, Ev, Mev, Bad}
use Rattle.spec_certificates.specs.Certificate.{Certificate}
use Rattle.spec_certificate_text.specs.Loose.{Head, Applied, Tupled, Made, Attackers}
use Rattle.spec_certificate_text.specs.Sides.{SidesOf, SpelledClause}
use Rattle.spec_certificate_text.specs.Words.{declared_word}
use Rattle.spec_certificate_text.specs.Text.{phase_text, numbers_text, row_lines}
use Rattle.spec_certificate_text.proofs.Followed.{phase_followed, certificate_followed}
use Rattle.spec_node_tables.specs.Nodes.{TableNode, NodeCertificate, with_nodes}
use Rattle.spec_node_tables.specs.Text.{later_terms, terms_text, call_over, event_over, fact_over, sides_over, later_diffs, diffs_over, later_hypotheses, hypotheses_over, clause_over, clause_lines_over, number_text, head_text, node_head, node_numbers, node_text, node_lines, numbered_text, text_with_nodes}

-- Nodes.

numbers_followed : (ns k rest : List ℕ) → numbers_text ns k ++ rest ≡ numbers_text ns (k ++ rest)
numbers_followed [] k rest = refl
numbers_followed (n ∷ ns) k rest = ap (λ l. 32 ∷ l) (append_assoc (decimal n) (numbers_text ns k) rest ∙ ap (λ l. decimal n ++ l) (numbers_followed ns k rest))

head_followed : (head : Head) (k rest : List ℕ) → head_text head k ++ rest ≡ head_text head (k ++ rest)
head_followed (Applied word) k rest = append_assoc word k rest
head_followed Tupled k rest = refl
head_followed (Made word digits) k rest = append_assoc word (64 ∷ (digits ++ k)) rest ∙ ap (λ l. word ++ (64 ∷ l)) (append_assoc digits k rest)
head_followed Attackers k rest = refl

node_followed : (P : Protocol) (n : TableNode) (k rest : List ℕ) → node_text P n k ++ rest ≡ node_text P n (k ++ rest)
node_followed P n k rest = head_followed (node_head P n) (numbers_text (node_numbers n) k) rest ∙ ap (head_text (node_head P n)) (numbers_followed (node_numbers n) k rest)

nodes_followed : (P : Protocol) (ns : List TableNode) (k rest : List ℕ) → node_lines P ns k ++ rest ≡ node_lines P ns (k ++ rest)
nodes_followed P [] k rest = refl
nodes_followed P (n ∷ ns) k rest = ap (λ l. 110 ∷ 32 ∷ l) (node_followed P n (10 ∷ node_lines P ns k) rest ∙ ap (λ l. node_text P n (10 ∷ l)) (nodes_followed P ns k rest))

-- Clauses over numbers.

number_followed : (n : ℕ) (k rest : List ℕ) → number_text n k ++ rest ≡ number_text n (k ++ rest)
number_followed n k rest = append_assoc (decimal n) k rest

module _ (P : Protocol) where
  later_followed : (ns : List ℕ) (k rest : List ℕ) → later_terms number_text P ns k ++ rest ≡ later_terms number_text P ns (k ++ rest)
  later_followed [] k rest = refl
  later_followed (n ∷ ns) k rest = ap (λ l. 44 ∷ l) (number_followed n (later_terms number_text P ns k) rest ∙ ap (number_text n) (later_followed ns k rest))

  terms_followed : (ns : List ℕ) (k rest : List ℕ) → terms_text number_text P ns k ++ rest ≡ terms_text number_text P ns (k ++ rest)
  terms_followed [] k rest = refl
  terms_followed (n ∷ ns) k rest = number_followed n (later_terms number_text P ns k) rest ∙ ap (number_text n) (later_followed ns k rest)

  call_followed : (ds : List Declared) (e : ℕ) (ns : List ℕ) (k rest : List ℕ) → call_over number_text P ds e ns k ++ rest ≡ call_over number_text P ds e ns (k ++ rest)
  call_followed ds e [] k rest = append_assoc (declared_word ds e) k rest
  call_followed ds e (n ∷ ns) k rest = append_assoc (declared_word ds e) (40 ∷ terms_text number_text P (n ∷ ns) (41 ∷ k)) rest ∙ ap (λ l. declared_word ds e ++ (40 ∷ l)) (terms_followed (n ∷ ns) (41 ∷ k) rest)

  event_followed : (e : ℕ) (ns : List ℕ) (k rest : List ℕ) → event_over number_text P e ns k ++ rest ≡ event_over number_text P e ns (k ++ rest)
  event_followed e ns k rest = call_followed P.events e ns k rest

  fact_followed : (f : Fact ℕ) (k rest : List ℕ) → fact_over number_text P f k ++ rest ≡ fact_over number_text P f (k ++ rest)
  fact_followed (Att phase t) k rest =
      ap (λ l. codes "att" ++ l) (phase_followed phase (40 ∷ terms_text number_text P (t ∷ []) (41 ∷ k)) rest ∙ ap (λ l. phase_text phase (40 ∷ l)) (terms_followed (t ∷ []) (41 ∷ k) rest))
  fact_followed (Mess phase t u) k rest =
      ap (λ l. codes "mess" ++ l) (phase_followed phase (40 ∷ terms_text number_text P (t ∷ u ∷ []) (41 ∷ k)) rest ∙ ap (λ l. phase_text phase (40 ∷ l)) (terms_followed (t ∷ u ∷ []) (41 ∷ k) rest))
  fact_followed (Tab n ts) k rest = ap (λ l. codes "tab(" ++ l) (call_followed P.tables n ts (41 ∷ k) rest)
  fact_followed (Ev e ts) k rest = ap (λ l. codes "ev(" ++ l) (event_followed e ts (41 ∷ k) rest)
  fact_followed (Mev e ts) k rest = ap (λ l. codes "mev(" ++ l) (event_followed e ts (41 ∷ k) rest)
  fact_followed (Bad ts) k rest = ap (λ l. codes "bad(" ++ l) (terms_followed ts (41 ∷ k) rest)

  sides_followed : (s : SidesOf ℕ) (k rest : List ℕ) → sides_over number_text P s k ++ rest ≡ sides_over number_text P s (k ++ rest)
  sides_followed s k rest =
      ap (λ l. codes "diff(" ++ l) (terms_followed s.left (59 ∷ terms_text number_text P s.right (41 ∷ k)) rest ∙ ap (λ l. terms_text number_text P s.left (59 ∷ l)) (terms_followed s.right (41 ∷ k) rest))

  later_diffs_followed : (ds : List (SidesOf ℕ)) (k rest : List ℕ) → later_diffs number_text P ds k ++ rest ≡ later_diffs number_text P ds (k ++ rest)
  later_diffs_followed [] k rest = refl
  later_diffs_followed (d ∷ ds) k rest = ap (λ l. 44 ∷ 32 ∷ l) (sides_followed d (later_diffs number_text P ds k) rest ∙ ap (sides_over number_text P d) (later_diffs_followed ds k rest))

  diffs_followed : (ds : List (SidesOf ℕ)) (k rest : List ℕ) → diffs_over number_text P ds k ++ rest ≡ diffs_over number_text P ds (k ++ rest)
  diffs_followed [] k rest = refl
  diffs_followed (d ∷ ds) k rest = sides_followed d (later_diffs number_text P ds k) rest ∙ ap (sides_over number_text P d) (later_diffs_followed ds k rest)

  further_followed : (hs : List (Fact ℕ)) (ds : List (SidesOf ℕ)) (k rest : List ℕ) → later_hypotheses number_text P hs ds k ++ rest ≡ later_hypotheses number_text P hs ds (k ++ rest)
  further_followed [] ds k rest = later_diffs_followed ds k rest
  further_followed (h ∷ hs) ds k rest = ap (λ l. 44 ∷ 32 ∷ l) (fact_followed h (later_hypotheses number_text P hs ds k) rest ∙ ap (fact_over number_text P h) (further_followed hs ds k rest))

  hypotheses_followed : (hs : List (Fact ℕ)) (ds : List (SidesOf ℕ)) (k rest : List ℕ) → hypotheses_over number_text P hs ds k ++ rest ≡ hypotheses_over number_text P hs ds (k ++ rest)
  hypotheses_followed [] ds k rest = diffs_followed ds k rest
  hypotheses_followed (h ∷ hs) ds k rest = fact_followed h (later_hypotheses number_text P hs ds k) rest ∙ ap (fact_over number_text P h) (further_followed hs ds k rest)

  clause_followed : (c : SpelledClause ℕ) (k rest : List ℕ) → clause_over number_text P c k ++ rest ≡ clause_over number_text P c (k ++ rest)
  clause_followed c k rest =
      hypotheses_followed c.hypotheses c.diffs (61 ∷ 62 ∷ 32 ∷ fact_over number_text P c.conclusion k) rest
      ∙ ap (λ l. hypotheses_over number_text P c.hypotheses c.diffs (61 ∷ 62 ∷ 32 ∷ l)) (fact_followed c.conclusion k rest)

  clauses_followed : (cs : List (SpelledClause ℕ)) (k rest : List ℕ) → clause_lines_over number_text P cs k ++ rest ≡ clause_lines_over number_text P cs (k ++ rest)
  clauses_followed [] k rest = refl
  clauses_followed (c ∷ cs) k rest =
      ap (λ l. 99 ∷ 32 ∷ l) (clause_followed c (10 ∷ clause_lines_over number_text P cs k) rest ∙ ap (λ l. clause_over number_text P c (10 ∷ l)) (clauses_followed cs k rest))

-- The rows and the last line, which are those of a certificate without clauses and without a table.

abbrev rows_text : List (List ℕ) → List (List ℕ) → List ℕ → List ℕ
rows_text rows goals k = row_lines 114 rows (row_lines 103 goals (codes "end\n" ++ k))

rows_followed : (P : Protocol) (rows goals : List (List ℕ)) (k rest : List ℕ) → rows_text rows goals k ++ rest ≡ rows_text rows goals (k ++ rest)
rows_followed P rows goals k rest = ap (λ l. drop 7 l) (certificate_followed P record { clauses = []; rows = rows; goals = goals } k rest)

-- Certificates.

numbered_followed : (P : Protocol) (c : NodeCertificate) (k rest : List ℕ) → numbered_text P c k ++ rest ≡ numbered_text P c (k ++ rest)
numbered_followed P c k rest =
    let rows = rows_text c.rows c.goals k in
    ap (λ l. codes "cert 2\n" ++ l)
    (nodes_followed P c.nodes (clause_lines_over number_text P c.clauses rows) rest
    ∙ ap (node_lines P c.nodes) (clauses_followed P c.clauses rows rest ∙ ap (clause_lines_over number_text P c.clauses) (rows_followed P c.rows c.goals k rest)))

pub with_nodes_followed : (P : Protocol) (c : Certificate) (k rest : List ℕ) → text_with_nodes P c k ++ rest ≡ text_with_nodes P c (k ++ rest)
with_nodes_followed P c k rest = numbered_followed P (with_nodes c) k rest
