-- Clauses and certificates in both formats.
use Rattle.std.proofs.Common.{◌≡◌, ℕ, nat_eq, true, false, cond, List, [], ◌∷◌, ◌++◌, map, refl, sym, ◌∙◌, ap, subst}
use Rattle.std.specs.Prelude.{codes}
use Rattle.std.specs.Fmt.{decimal}
use Rattle.std.proofs.lemmas.List.{append-nil}
use Rattle.spec_calculus.specs.Syntax.{Protocol}
use Rattle.spec_terms.specs.Term.{Term}
use Rattle.spec_clauses.specs.Fact.{Fact, Att, Mess, Tab, Ev, Mev, Bad, Clause, map_fact}
use Rattle.spec_certificates.specs.Certificate.{Certificate}
use Rattle.spec_certificate_text.specs.Sides.{SidesOf, SpelledClause, spelled_clause, map_sides, map_spelled}
use Rattle.spec_certificate_text.specs.Words.{event_word, table_word}
use Rattle.spec_certificate_text.specs.Text.{term_text, clause_text, clause_lines, row_lines, certificate_text}
use Rattle.spec_node_tables.specs.Table.{table, terms_in_order, number_in}
use Rattle.spec_node_tables.specs.Nodes.{node_of}
use Rattle.spec_node_tables.specs.Text.{later_terms, terms_text, word_over, fact_over, sides_over, later_diffs, diffs_over, later_hypotheses, hypotheses_over, clause_over, clause_lines_over, number_text, node_lines, text_with_nodes}
use Rattle.spec_node_tables.proofs.Alike.{clause_alike}
use Rattle.node_table.specs.Entered.{table_of}
use Rattle.cert_form.specs.Appends.{Appends}
use Rattle.cert_form.specs.Writing.{Writes, spelled_clauses, numbered_clauses, clauses_in, text_in}
use Rattle.cert_form.proofs.Items.{then}

-- Each term as it stands.

-- what is kept, and the text of a term
abbrev pub nothing_kept : List Term → List Term
nothing_kept ts = []

abbrev pub as_it_stands : Protocol → List Term → Term → List ℕ → List ℕ
as_it_stands P all t = term_text P t

pub spelled_written : (P : Protocol) (t : Term) (a b : List ℕ) → Appends (term_text P t) a b → Writes nothing_kept (as_it_stands P) (t ∷ []) (λ o. o t) [] [] a b
spelled_written P t a b put = record { keeps = λ earlier e. refl; puts = λ earlier later e. put }

pub clause_put : (P : Protocol) (c : Clause Term) (ts : List Term) (a b : List ℕ) → Writes nothing_kept (as_it_stands P) ts (λ o. clause_over o P (spelled_clause c)) [] [] a b → Appends (clause_text P c) a b
clause_put P c ts a b written = record { is = λ rest. (written.puts [] [] refl).is rest ∙ ap (λ bytes. a ++ bytes) (sym (clause_alike P c rest)) }

lines_alike : (P : Protocol) (cs : List (Clause Term)) (rest : List ℕ) → clause_lines_over (term_text P) P (map spelled_clause cs) rest ≡ clause_lines P cs rest
lines_alike P [] rest = refl
lines_alike P (c ∷ cs) rest = ap (λ r. 99 ∷ 32 ∷ clause_over (term_text P) P (spelled_clause c) (10 ∷ r)) (lines_alike P cs rest) ∙ ap (λ r. 99 ∷ 32 ∷ r) (sym (clause_alike P c (10 ∷ clause_lines P cs rest)))

pub spelled_put : (P : Protocol) (cs : List (Clause Term)) (ts : List Term) (a b c : List ℕ) → Appends (λ rest. codes "cert 1\n" ++ rest) a b → Writes nothing_kept (as_it_stands P) ts (λ o. clause_lines_over o P (map spelled_clause cs)) [] [] b c → Appends (spelled_clauses P cs) a c
spelled_put P cs ts a b c first written =
    then (λ rest. codes "cert 1\n" ++ rest) (clause_lines P cs) a b c first record { is = λ rest. (written.puts [] [] refl).is rest ∙ ap (λ bytes. b ++ bytes) (lines_alike P cs rest) }

-- Terms by their numbers.

abbrev pub by_number : Protocol → List Term → Term → List ℕ → List ℕ
by_number P all t = number_text (number_in (table_of all) t)

pub number_written : (P : Protocol) (t : Term) (kept now : List Term) (number : ℕ) (a b : List ℕ) → ((earlier : List Term) → kept ≡ table_of earlier → now ≡ table_of (earlier ++ (t ∷ [])))
    → ((earlier later : List Term) → kept ≡ table_of earlier → number ≡ number_in (table_of (earlier ++ (t ∷ later))) t) → Appends (λ rest. decimal number ++ rest) a b → Writes table_of (by_number P) (t ∷ []) (λ o. o t) kept now a b
number_written P t kept now number a b keeps told put = record {
  keeps = keeps;
  puts = λ earlier later e. subst (λ n. Appends (number_text n) a b) (told earlier later e) put;
}

-- a text over numbers is that over terms, each written by its number
module _ (number : Term → ℕ) (P : Protocol) where
  abbrev numbered : Term → List ℕ → List ℕ
  numbered t = number_text (number t)

  later_mapped : (ts : List Term) (k : List ℕ) → later_terms numbered P ts k ≡ later_terms number_text P (map number ts) k
  later_mapped [] k = refl
  later_mapped (t ∷ ts) k = ap (λ r. 44 ∷ numbered t r) (later_mapped ts k)

  terms_mapped : (ts : List Term) (k : List ℕ) → terms_text numbered P ts k ≡ terms_text number_text P (map number ts) k
  terms_mapped [] k = refl
  terms_mapped (t ∷ ts) k = ap (λ r. numbered t r) (later_mapped ts k)

  word_mapped : (word : List ℕ) (ts : List Term) (k : List ℕ) → word_over numbered P word ts k ≡ word_over number_text P word (map number ts) k
  word_mapped word [] k = refl
  word_mapped word (t ∷ ts) k = ap (λ r. word ++ (40 ∷ r)) (terms_mapped (t ∷ ts) (41 ∷ k))

  fact_mapped : (f : Fact Term) (k : List ℕ) → fact_over numbered P f k ≡ fact_over number_text P (map_fact number f) k
  fact_mapped (Att phase t) k = refl
  fact_mapped (Mess phase t u) k = refl
  fact_mapped (Tab n ts) k = ap (λ r. codes "tab(" ++ r) (word_mapped (table_word P n) ts (41 ∷ k))
  fact_mapped (Ev e ts) k = ap (λ r. codes "ev(" ++ r) (word_mapped (event_word P e) ts (41 ∷ k))
  fact_mapped (Mev e ts) k = ap (λ r. codes "mev(" ++ r) (word_mapped (event_word P e) ts (41 ∷ k))
  fact_mapped (Bad ts) k = ap (λ r. codes "bad(" ++ r) (terms_mapped ts (41 ∷ k))

  sides_mapped : (d : SidesOf Term) (k : List ℕ) → sides_over numbered P d k ≡ sides_over number_text P (map_sides number d) k
  sides_mapped d k =
      ap (λ r. codes "diff(" ++ terms_text numbered P d.left (59 ∷ r)) (terms_mapped d.right (41 ∷ k)) ∙ ap (λ r. codes "diff(" ++ r) (terms_mapped d.left (59 ∷ terms_text number_text P (map number d.right) (41 ∷ k)))

  later_diffs_mapped : (ds : List (SidesOf Term)) (k : List ℕ) → later_diffs numbered P ds k ≡ later_diffs number_text P (map (map_sides number) ds) k
  later_diffs_mapped [] k = refl
  later_diffs_mapped (d ∷ ds) k = ap (λ r. 44 ∷ 32 ∷ sides_over numbered P d r) (later_diffs_mapped ds k) ∙ ap (λ r. 44 ∷ 32 ∷ r) (sides_mapped d (later_diffs number_text P (map (map_sides number) ds) k))

  diffs_mapped : (ds : List (SidesOf Term)) (k : List ℕ) → diffs_over numbered P ds k ≡ diffs_over number_text P (map (map_sides number) ds) k
  diffs_mapped [] k = refl
  diffs_mapped (d ∷ ds) k = ap (λ r. sides_over numbered P d r) (later_diffs_mapped ds k) ∙ sides_mapped d (later_diffs number_text P (map (map_sides number) ds) k)

  later_hypotheses_mapped : (hs : List (Fact Term)) (ds : List (SidesOf Term)) (k : List ℕ) → later_hypotheses numbered P hs ds k ≡ later_hypotheses number_text P (map (map_fact number) hs) (map (map_sides number) ds) k
  later_hypotheses_mapped [] ds k = later_diffs_mapped ds k
  later_hypotheses_mapped (h ∷ hs) ds k =
      ap (λ r. 44 ∷ 32 ∷ fact_over numbered P h r) (later_hypotheses_mapped hs ds k) ∙ ap (λ r. 44 ∷ 32 ∷ r) (fact_mapped h (later_hypotheses number_text P (map (map_fact number) hs) (map (map_sides number) ds) k))

  hypotheses_mapped : (hs : List (Fact Term)) (ds : List (SidesOf Term)) (k : List ℕ) → hypotheses_over numbered P hs ds k ≡ hypotheses_over number_text P (map (map_fact number) hs) (map (map_sides number) ds) k
  hypotheses_mapped [] ds k = diffs_mapped ds k
  hypotheses_mapped (h ∷ hs) ds k =
      ap (λ r. fact_over numbered P h r) (later_hypotheses_mapped hs ds k) ∙ fact_mapped h (later_hypotheses number_text P (map (map_fact number) hs) (map (map_sides number) ds) k)

  clause_mapped : (c : SpelledClause Term) (k : List ℕ) → clause_over numbered P c k ≡ clause_over number_text P (map_spelled number c) k
  clause_mapped c k =
      ap (λ r. hypotheses_over numbered P c.hypotheses c.diffs (61 ∷ 62 ∷ 32 ∷ r)) (fact_mapped c.conclusion k) ∙ hypotheses_mapped c.hypotheses c.diffs (61 ∷ 62 ∷ 32 ∷ fact_over number_text P (map_fact number c.conclusion) k)

  lines_mapped : (cs : List (Clause Term)) (k : List ℕ) → clause_lines_over numbered P (map spelled_clause cs) k ≡ clause_lines_over number_text P (map (λ c. map_spelled number (spelled_clause c)) cs) k
  lines_mapped [] k = refl
  lines_mapped (c ∷ cs) k =
      ap (λ r. 99 ∷ 32 ∷ clause_over numbered P (spelled_clause c) (10 ∷ r)) (lines_mapped cs k)
      ∙ ap (λ r. 99 ∷ 32 ∷ r) (clause_mapped (spelled_clause c) (10 ∷ clause_lines_over number_text P (map (λ d. map_spelled number (spelled_clause d)) cs) k))

-- the first line and the nodes, where the clauses were written before, which made the table
pub numbered_put : (P : Protocol) (cs : List (Clause Term)) (kept made : List Term) (empty lines a b c d : List ℕ) → kept ≡ [] → empty ≡ [] → Writes table_of (by_number P) (terms_in_order cs) (λ o. clause_lines_over o P (map spelled_clause cs)) kept made empty lines
    → Appends (λ rest. codes "cert 2\n" ++ rest) a b → Appends (node_lines P (map (node_of made) made)) b c → Appends (λ rest. lines ++ rest) c d → Appends (numbered_clauses P cs) a d
numbered_put P cs kept made empty lines a b c d none_kept no_bytes written first nodes last =
    let all = table cs in
    let is : made ≡ all = written.keeps [] none_kept in
    let numbers : clause_lines_over (by_number P (terms_in_order cs ++ [])) P (map spelled_clause cs) ≡ clause_lines_over (by_number P (terms_in_order cs)) P (map spelled_clause cs) = ap (λ ts. clause_lines_over (by_number P ts) P (map spelled_clause cs)) (append-nil (terms_in_order cs)) in
    let put : Appends (clause_lines_over (by_number P (terms_in_order cs ++ [])) P (map spelled_clause cs)) [] lines = subst (λ bytes. Appends (clause_lines_over (by_number P (terms_in_order cs ++ [])) P (map spelled_clause cs)) bytes lines) no_bytes (written.puts [] [] none_kept) in
    let told : (rest : List ℕ) → lines ++ rest ≡ clause_lines_over number_text P (map (λ c. map_spelled (number_in all) (spelled_clause c)) cs) rest = λ rest. put.is rest ∙ (ap (λ text. text rest) numbers ∙ lines_mapped (number_in all) P cs rest) in
    let named = subst (λ ts. Appends (node_lines P (map (node_of ts) ts)) b c) is nodes in
    let behind : Appends (clause_lines_over number_text P (map (λ c. map_spelled (number_in all) (spelled_clause c)) cs)) c d = record { is = λ rest. last.is rest ∙ ap (λ bytes. c ++ bytes) (told rest) } in
    then (λ rest. codes "cert 2\n" ++ rest) (λ rest. node_lines P (map (node_of all) all) (clause_lines_over number_text P (map (λ c. map_spelled (number_in all) (spelled_clause c)) cs) rest)) a b d first
    (then (node_lines P (map (node_of all) all)) (clause_lines_over number_text P (map (λ c. map_spelled (number_in all) (spelled_clause c)) cs)) b c d named behind)

-- A certificate.

abbrev certificate_of : List (Clause Term) → List (List ℕ) → List (List ℕ) → Certificate
certificate_of clauses rows goals = record { clauses = clauses; rows = rows; goals = goals }

by_parts : (format : ℕ) (P : Protocol) (clauses : List (Clause Term)) (rows goals : List (List ℕ)) (k : List ℕ) → clauses_in format P clauses (row_lines 114 rows (row_lines 103 goals (codes "end\n" ++ k))) ≡ text_in format P (certificate_of clauses rows goals) k
by_parts format P clauses rows goals k =
    let behind = row_lines 114 rows (row_lines 103 goals (codes "end\n" ++ k)) in
    elim (nat_eq format 2) as (λ b. cond b (numbered_clauses P clauses behind) (spelled_clauses P clauses behind) ≡ cond b (text_with_nodes P (certificate_of clauses rows goals) k) (certificate_text P (certificate_of clauses rows goals) k)) [
      | true ↦ refl
      | false ↦ refl
    ]

pub certificate_put : (format : ℕ) (P : Protocol) (cert : Certificate) (clauses : List (Clause Term)) (rows goals : List (List ℕ)) (a b c d e : List ℕ) → certificate_of clauses rows goals ≡ cert → Appends (clauses_in format P clauses) a b → Appends (row_lines 114 rows) b c → Appends (row_lines 103 goals) c d
    → Appends (λ rest. codes "end\n" ++ rest) d e → Appends (text_in format P cert) a e
certificate_put format P cert clauses rows goals a b c d e is first second third last =
    let lines = then (clauses_in format P clauses) (λ rest. row_lines 114 rows (row_lines 103 goals (codes "end\n" ++ rest))) a b e first
    (then (row_lines 114 rows) (λ rest. row_lines 103 goals (codes "end\n" ++ rest)) b c e second (then (row_lines 103 goals) (λ rest. codes "end\n" ++ rest) c d e third last)) in
    subst (λ whole. Appends (text_in format P whole) a e) is record { is = λ rest. lines.is rest ∙ ap (λ bytes. a ++ bytes) (by_parts format P clauses rows goals rest) }
