-- A certificate by numbers, written with the words of a protocol, has the text that the protocol gives it.
use Rattle.std.proofs.Common.{◌≡◌, ℕ, List, [], ◌∷◌, ◌++◌, map, refl, ap, ◌∙◌, zero, suc}
use Rattle.std.specs.Prelude.{codes}
use Rattle.std.specs.Fmt.{decimal}
use Rattle.spec_calculus.specs.Syntax.{Declared, Protocol}
use Rattle.spec_clauses.specs.Fact.{Fact, Att, Mess, Tab, Ev, Mev, Bad}
use Rattle.spec_certificate_text.specs.Sides.{SidesOf, SpelledClause}
use Rattle.spec_certificate_text.specs.Words.{declared_word, event_word}
use Rattle.spec_certificate_text.specs.Text.{phase_text}
use Rattle.spec_certificate_text.specs.Text.{numbers_text, row_lines}
use Rattle.spec_node_tables.specs.Nodes.{TableNode, NodeCertificate}
use Rattle.spec_node_tables.specs.Text as short
use Rattle.spec_node_tables.specs.Text.{number_text, node_head, head_text, node_numbers, terms_text, call_over, event_over, fact_over, sides_over, diffs_over, hypotheses_over, clause_over, clause_lines_over, numbered_text}
use Rattle.spec_node_faults.specs.Loose.{spaced, later_numbers, commas, node_line, phase_onto, phase_digits, event_onto, fact_onto, diff_onto, later_diffs, diffs_onto, later_onto, hypotheses_onto, clause_line, row_line, lines, certificate_onto, written_node, written_fact, written_diff, written_clause, written}

numbers_spaced : (ns : List ℕ) (k : List ℕ) → spaced (map decimal ns) k ≡ numbers_text ns k
numbers_spaced [] k = refl
numbers_spaced (n ∷ ns) k = ap (λ r. 32 ∷ (decimal n ++ r)) (numbers_spaced ns k)

module _ (P : Protocol) where
  later_same : (ns : List ℕ) (k : List ℕ) → later_numbers (map decimal ns) k ≡ short.later_terms number_text P ns k
  later_same [] k = refl
  later_same (n ∷ ns) k = ap (λ r. 44 ∷ (decimal n ++ r)) (later_same ns k)

  commas_same : (ns : List ℕ) (k : List ℕ) → commas (map decimal ns) k ≡ terms_text number_text P ns k
  commas_same [] k = refl
  commas_same (n ∷ ns) k = ap (λ r. decimal n ++ r) (later_same ns k)

  call_same : (ds : List Declared) (e : ℕ) (ns : List ℕ) (k : List ℕ) → event_onto (declared_word ds e) (map decimal ns) k ≡ call_over number_text P ds e ns k
  call_same ds e [] k = refl
  call_same ds e (n ∷ ns) k = ap (λ r. declared_word ds e ++ (40 ∷ r)) (commas_same (n ∷ ns) (41 ∷ k))

  event_same : (e : ℕ) (ns : List ℕ) (k : List ℕ) → event_onto (event_word P e) (map decimal ns) k ≡ event_over number_text P e ns k
  event_same e ns k = call_same P.events e ns k

  phase_same : (phase : ℕ) (k : List ℕ) → phase_onto (phase_digits phase) k ≡ phase_text phase k
  phase_same zero k = refl
  phase_same (suc phase) k = refl

  fact_same : (f : Fact ℕ) (k : List ℕ) → fact_onto (written_fact P f) k ≡ fact_over number_text P f k
  fact_same (Att phase n) k = ap (λ r. codes "att" ++ r) (phase_same phase (40 ∷ (decimal n ++ (41 ∷ k))))
  fact_same (Mess phase m n) k = ap (λ r. codes "mess" ++ r) (phase_same phase (40 ∷ (decimal m ++ (44 ∷ (decimal n ++ (41 ∷ k))))))
  fact_same (Tab n ns) k = ap (λ r. codes "tab(" ++ r) (call_same P.tables n ns (41 ∷ k))
  fact_same (Ev e ns) k = ap (λ r. codes "ev(" ++ r) (event_same e ns (41 ∷ k))
  fact_same (Mev e ns) k = ap (λ r. codes "mev(" ++ r) (event_same e ns (41 ∷ k))
  fact_same (Bad ns) k = ap (λ r. codes "bad(" ++ r) (commas_same ns (41 ∷ k))

  diff_same : (s : SidesOf ℕ) (k : List ℕ) → diff_onto (written_diff s) k ≡ sides_over number_text P s k
  diff_same s k =
      ap (λ r. codes "diff(" ++ commas (map decimal s.left) (59 ∷ r)) (commas_same s.right (41 ∷ k)) ∙ ap (λ r. codes "diff(" ++ r) (commas_same s.left (59 ∷ terms_text number_text P s.right (41 ∷ k)))

  later_diffs_same : (ds : List (SidesOf ℕ)) (k : List ℕ) → later_diffs (map written_diff ds) k ≡ short.later_diffs number_text P ds k
  later_diffs_same [] k = refl
  later_diffs_same (d ∷ ds) k = ap (λ r. 44 ∷ 32 ∷ diff_onto (written_diff d) r) (later_diffs_same ds k) ∙ ap (λ r. 44 ∷ 32 ∷ r) (diff_same d (short.later_diffs number_text P ds k))

  diffs_same : (ds : List (SidesOf ℕ)) (k : List ℕ) → diffs_onto (map written_diff ds) k ≡ diffs_over number_text P ds k
  diffs_same [] k = refl
  diffs_same (d ∷ ds) k = ap (λ r. diff_onto (written_diff d) r) (later_diffs_same ds k) ∙ diff_same d (short.later_diffs number_text P ds k)

  later_facts_same : (hs : List (Fact ℕ)) (ds : List (SidesOf ℕ)) (k : List ℕ) → later_onto (map (written_fact P) hs) (map written_diff ds) k ≡ short.later_hypotheses number_text P hs ds k
  later_facts_same [] ds k = later_diffs_same ds k
  later_facts_same (h ∷ hs) ds k = ap (λ r. 44 ∷ 32 ∷ fact_onto (written_fact P h) r) (later_facts_same hs ds k) ∙ ap (λ r. 44 ∷ 32 ∷ r) (fact_same h (short.later_hypotheses number_text P hs ds k))

  hypotheses_same : (hs : List (Fact ℕ)) (ds : List (SidesOf ℕ)) (k : List ℕ) → hypotheses_onto (map (written_fact P) hs) (map written_diff ds) k ≡ hypotheses_over number_text P hs ds k
  hypotheses_same [] ds k = diffs_same ds k
  hypotheses_same (h ∷ hs) ds k = ap (λ r. fact_onto (written_fact P h) r) (later_facts_same hs ds k) ∙ fact_same h (short.later_hypotheses number_text P hs ds k)

  clause_same : (c : SpelledClause ℕ) (k : List ℕ) → clause_line (written_clause P c) k ≡ 99 ∷ 32 ∷ clause_over number_text P c (10 ∷ k)
  clause_same c k =
      ap (λ r. 99 ∷ 32 ∷ hypotheses_onto (map (written_fact P) c.hypotheses) (map written_diff c.diffs) (61 ∷ 62 ∷ 32 ∷ r)) (fact_same c.conclusion (10 ∷ k))
      ∙ ap (λ r. 99 ∷ 32 ∷ r) (hypotheses_same c.hypotheses c.diffs (61 ∷ 62 ∷ 32 ∷ fact_over number_text P c.conclusion (10 ∷ k)))

  clauses_same : (cs : List (SpelledClause ℕ)) (k : List ℕ) → lines clause_line (map (written_clause P) cs) k ≡ clause_lines_over number_text P cs k
  clauses_same [] k = refl
  clauses_same (c ∷ cs) k = ap (λ r. clause_line (written_clause P c) r) (clauses_same cs k) ∙ clause_same c (clause_lines_over number_text P cs k)

  node_same : (n : TableNode) (k : List ℕ) → node_line (written_node P n) k ≡ 110 ∷ 32 ∷ short.node_text P n (10 ∷ k)
  node_same n k = ap (λ r. 110 ∷ 32 ∷ head_text (node_head P n) r) (numbers_spaced (node_numbers n) (10 ∷ k))

  nodes_same : (ns : List TableNode) (k : List ℕ) → lines node_line (map (written_node P) ns) k ≡ short.node_lines P ns k
  nodes_same [] k = refl
  nodes_same (n ∷ ns) k = ap (λ r. node_line (written_node P n) r) (nodes_same ns k) ∙ node_same n (short.node_lines P ns k)

rows_same : (letter : ℕ) (rows : List (List ℕ)) (k : List ℕ) → lines (row_line letter) (map (map decimal) rows) k ≡ row_lines letter rows k
rows_same letter [] k = refl
rows_same letter (r ∷ rows) k = ap (λ s. letter ∷ spaced (map decimal r) (10 ∷ s)) (rows_same letter rows k) ∙ ap (λ s. letter ∷ s) (numbers_spaced r (10 ∷ row_lines letter rows k))

pub certificate_same : (P : Protocol) (c : NodeCertificate) (k : List ℕ) → certificate_onto (written P c) k ≡ numbered_text P c k
certificate_same P c k =
    let e = codes "end\n" ++ k in
    let goals = row_lines 103 c.goals e in
    let rows = row_lines 114 c.rows goals in
    let start : List ℕ → List ℕ = λ r. codes "cert 2\n" ++ lines node_line (map (written_node P) c.nodes) r in
    ap (λ r. start (lines clause_line (map (written_clause P) c.clauses) (lines (row_line 114) (map (map decimal) c.rows) r))) (rows_same 103 c.goals e)
    ∙ (ap (λ r. start (lines clause_line (map (written_clause P) c.clauses) r)) (rows_same 114 c.rows goals)
    ∙ (ap start (clauses_same P c.clauses rows)
    ∙ ap (λ r. codes "cert 2\n" ++ r) (nodes_same P c.nodes (clause_lines_over number_text P c.clauses rows))))
