-- A certificate by numbers that was read is what the bytes begin with.
use Rattle.std.proofs.Common.{◌≡◌, ℕ, ◌≤◌, ◌==◌, ◌&&◌, not, Bool, true, false, List, [], ◌∷◌, ◌++◌, map, length, drop, codes, refl, sym, ◌∙◌, ap, subst, arith, inl, inr}
use Rattle.std.specs.Prelude.{flat_map}
use Rattle.std.specs.List.{AllByRecursion}
use Rattle.std.proofs.lemmas.List.{length-map}
use Rattle.spec_trees.specs.Tree.{size}
use Rattle.spec_calculus.specs.Bounds.{most_symbols, most_clauses}
use Rattle.spec_calculus.specs.Syntax.{Protocol}
use Rattle.spec_terms.specs.Term.{Term}
use Rattle.spec_clauses.specs.Fact.{Clause}
use Rattle.spec_clauses.proofs.Lists.{all_weaker}
use Rattle.spec_certificates.specs.Certificate.{Certificate}
use Rattle.spec_certificate_text.specs.Text.{row_lines}
use Rattle.spec_certificate_text.specs.OfProtocol.{IsShort, IsTermBelow, most_side_variables}
use Rattle.spec_certificate_text.specs.Terms.{NodeOrder}
use Rattle.spec_certificate_text.specs.Outcomes.{Found, Faulty, next, front, read_fixed}
use Rattle.spec_certificate_text.specs.Certificates.{read_rows, read_certificate, certificate_end}
use Rattle.spec_certificate_text.specs.Readable.{IsRow}
use Rattle.spec_certificate_text.proofs.Parts.{parts, chosen, fixed_there}
use Rattle.spec_certificate_text.proofs.CertificatesRead.{rows_there, read_certificate-there}
use Rattle.spec_node_tables.specs.Nodes.{NodeCertificate, term_at, terms_from, without_nodes}
use Rattle.spec_node_tables.specs.Table.{spelled_terms}
use Rattle.spec_node_tables.specs.Text.{number_text, node_lines, clause_lines_over, numbered_text, text_with_nodes}
use Rattle.spec_node_tables.specs.Large.{most_certificate_symbols, up_to_clause, up_to_clauses, AreUpTo}
use Rattle.spec_node_tables.specs.Order.{HasNumbersOf, IsInOrder}
use Rattle.spec_node_tables.proofs.Ordered.{ordered_again}
use Rattle.spec_node_faults.specs.Clauses.{is_front, completed}
use Rattle.spec_node_faults.specs.Grammar.{StandsRight, IsNumberable}
use Rattle.spec_node_faults.proofs.Items.{HasOwnNumbers}
use Rattle.spec_node_faults.proofs.Orders.{InOrder}
use Rattle.spec_node_faults.proofs.FoundOrders.{order_told}
use Rattle.spec_node_faults.proofs.Converse.{all_terms_are, as_many, clauses_are, row_short}
use Rattle.spec_node_reading.specs.Walked.{nothing_yet}
use Rattle.spec_node_reading.specs.Loops.{Behind, with, lines_through}
use Rattle.spec_node_reading.specs.ReadNodes.{read_nodes}
use Rattle.spec_node_reading.specs.ReadClauses.{read_clause_line}
use Rattle.spec_node_reading.specs.Readable.{SpellsNumbered, SpellsCertificate}
use Rattle.spec_node_reading.specs.Reading.{ends_clauses, behind_clauses, behind_nodes, read_numbered, read_in_both}
use Rattle.spec_node_reading.proofs.Parts.{clause_parts, numbers_of, all_numbers, clause_meant}
use Rattle.spec_node_reading.proofs.NodesThere.{NodesThere, nodes_there}
use Rattle.spec_node_reading.proofs.ClausesThere.{ClausesThere, clauses_there}

-- What stands behind the clauses.

record EndThere (cs : List (Clause Term)) (bytes : List ℕ) (c : Certificate) (rest : List ℕ) : Type 0 where
  rows : List (List ℕ)
  goals : List (List ℕ)
  is : record { clauses = cs; rows = rows; goals = goals } ≡ c
  text : bytes ≡ row_lines 114 rows (row_lines 103 goals (codes "end\n" ++ rest))
  rows_are : AllByRecursion IsRow rows
  goals_are : AllByRecursion IsRow goals

abbrev made : List (Clause Term) → List (List ℕ) → List (List ℕ) → Certificate
made cs rows goals = record { clauses = cs; rows = rows; goals = goals }

end_there : (cs : List (Clause Term)) (bytes : List ℕ) (at : ℕ) (c : Certificate) (p : ℕ) (r : List ℕ) → certificate_end cs bytes at ≡ Found c p r → EndThere cs bytes c r
end_there cs bytes at c p r e =
    let cover = parts (read_rows 114 bytes at) (λ rows q k. next (read_rows 103 k q) (λ goals q k. next (read_fixed (codes "end\n") k q) (λ _ q k. Found (made cs rows goals) q k))) c p r e in
    let rows = rows_there 114 bytes at cover.value cover.place cover.rest cover.first in
    let goal = parts (read_rows 103 cover.rest cover.place) (λ goals q k. next (read_fixed (codes "end\n") k q) (λ _ q k. Found (made cs cover.value goals) q k)) c p r cover.later in
    let goals = rows_there 103 cover.rest cover.place goal.value goal.place goal.rest goal.first in
    let end = parts (read_fixed (codes "end\n") goal.rest goal.place) (λ _ q k. Found (made cs cover.value goal.value) q k) c p r goal.later in
    let closes = fixed_there (codes "end\n") goal.rest goal.place end.value end.place end.rest end.first in
    let same : made cs cover.value goal.value ≡ c = cc in
    let rests : end.rest ≡ r = cc in
    record {
      rows = cover.value;
      goals = goal.value;
      is = same;
      text = rows.text ∙ ap (row_lines 114 cover.value) (goals.text ∙ ap (row_lines 103 goal.value) (closes ∙ ap (λ s. codes "end\n" ++ s) rests));
      rows_are = rows.is;
      goals_are = goals.is;
    }

-- a row or the last line begins there
ends_there : (rows goals : List (List ℕ)) (rest : List ℕ) → ends_clauses (front (row_lines 114 rows (row_lines 103 goals (codes "end\n" ++ rest)))) ≡ true
ends_there [] [] rest = refl
ends_there [] (g ∷ goals) rest = refl
ends_there (r ∷ rows) goals rest = refl

not_false : (a b : Bool) → a ≡ true → (a && not b) ≡ false → b ≡ true
not_false true true is e = refl
not_false true false is e = absurd (cc)
not_false false b is e = absurd (cc)

-- The whole.

module _ (P : Protocol) where
  -- what was read of all parts
  record PartsThere (bytes : List ℕ) (c : Certificate) (rest : List ℕ) : Type 0 where
    table : List Term
    behind_table : List ℕ
    behind_lines : List ℕ
    cs : Behind (List (Clause Term))
    nodes : NodesThere P [] behind_table table behind_lines
    behind : List ℕ
    clauses : ClausesThere P table nothing_yet most_clauses behind_lines [] cs behind
    end : EndThere cs.value behind c rest
    text : bytes ≡ codes "cert 2\n" ++ behind_table
    front : is_front table (completed cs.walked.seen) ≡ true

  parts_there : (bytes : List ℕ) (at : ℕ) (c : Certificate) (p : ℕ) (r : List ℕ) → read_numbered P bytes at ≡ Found c p r → PartsThere bytes c r
  parts_there bytes at c p r e =
      let begin = parts (read_fixed (codes "cert 2\n") bytes at) (λ _ q k. next (read_nodes P k q) (λ table q k. behind_nodes P table k q)) c p r e in
      let opens = fixed_there (codes "cert 2\n") bytes at begin.value begin.place begin.rest begin.first in
      let cut = parts (read_nodes P begin.rest begin.place) (λ table q k. behind_nodes P table k q) c p r begin.later in
      let table = cut.value in
      let nodes = nodes_there P (length begin.rest) [] begin.rest begin.place table cut.place cut.rest cut.first in
      let lines = parts (lines_through 99 (read_clause_line P table) most_clauses (with [] nothing_yet) cut.rest cut.place) (λ cs q k. behind_clauses table cs k q) c p r cut.later in
      let clauses = clauses_there P table most_clauses (with [] nothing_yet) cut.rest cut.place lines.value lines.place lines.rest lines.first in
      let test = ends_clauses (front lines.rest) && not (is_front table (completed lines.value.walked.seen)) in
      chosen test (Faulty lines.place NodeOrder) (certificate_end lines.value.value lines.rest lines.place) c p r (PartsThere bytes c r) lines.later
      (λ unreached never. absurd (cc))
      (λ reached told.
      let end = end_there lines.value.value lines.rest lines.place c p r told in
      let ends : ends_clauses (front lines.rest) ≡ true = ap (λ s. ends_clauses (front s)) end.text ∙ ends_there end.rows end.goals r in
      record {
        table = table;
        behind_table = begin.rest;
        behind_lines = cut.rest;
        cs = lines.value;
        nodes = nodes;
        behind = lines.rest;
        clauses = clauses;
        end = end;
        text = opens;
        front = not_false (ends_clauses (front lines.rest)) (is_front table (completed lines.value.walked.seen)) ends reached;
      })

  module _ (bytes : List ℕ) (c : Certificate) (rest : List ℕ) (there : PartsThere bytes c rest) where
    by_numbers : NodeCertificate
    by_numbers = record { nodes = there.nodes.nodes; clauses = there.clauses.numbered; rows = there.end.rows; goals = there.end.goals }

    all : List Term
    all = terms_from [] there.nodes.nodes

    table_is : there.table ≡ all
    unfolding all
    table_is = there.nodes.so

    ordered : IsInOrder by_numbers
    unfolding by_numbers all
    ordered =
        let numbers = flat_map spelled_terms there.clauses.numbered in
        let same : numbers_of (flat_map clause_parts there.clauses.numbered) ≡ numbers = all_numbers there.clauses.numbered in
        let front : is_front all (completed (map (term_at all) numbers)) ≡ true =
        subst (λ ts. is_front ts (completed (map (term_at ts) numbers)) ≡ true) table_is (ap (λ us. is_front there.table (completed us)) (sym (there.clauses.seen ∙ ap (map (term_at there.table)) same)) ∙ there.front) in
        order_told by_numbers there.nodes.order (as_many there.nodes.nodes) (subst (λ ts. InOrder ts [] (flat_map spelled_terms there.clauses.numbered)) table_is (subst (InOrder there.table []) same there.clauses.order)) front

    meant : Certificate
    meant = without_nodes by_numbers

    is_meant : c ≡ meant
    unfolding meant by_numbers all
    is_meant =
        let value : there.cs.value ≡ map (clause_meant all) there.clauses.numbered = subst (λ ts. there.cs.value ≡ map (clause_meant ts) there.clauses.numbered) table_is there.clauses.value in
        sym there.end.is ∙ ap (λ cs. made cs there.end.rows there.end.goals) value

    text_is : bytes ≡ text_with_nodes P meant rest
    unfolding meant by_numbers
    text_is =
        let nodes = there.nodes.text in
        let clauses = there.clauses.text in
        let end = there.end.text in
        let whole : bytes ≡ numbered_text P by_numbers rest =
        there.text ∙ ap (λ s. codes "cert 2\n" ++ s) (nodes ∙ ap (node_lines P there.nodes.nodes) (clauses ∙ ap (clause_lines_over number_text P there.clauses.numbered) end)) in
        whole ∙ ap (λ d. numbered_text P d rest) (sym (ordered_again by_numbers ordered))

    numberable : IsNumberable P meant
    unfolding meant by_numbers all
    numberable =
        let walked = ordered.walked in
        let so_many : length all ≡ length there.nodes.nodes = as_many there.nodes.nodes in
        let terms : AllByRecursion (IsTermBelow most_side_variables P) all = all_terms_are P [] there.nodes.nodes tt there.nodes.are there.nodes.order in
        let many : length (map (clause_meant all) there.clauses.numbered) ≡ length there.clauses.numbered = length-map there.clauses.numbered (clause_meant all) in
        let few = there.clauses.few in
        let small : AllByRecursion (λ t. size t ≤ most_symbols) all = subst (AllByRecursion (λ t. size t ≤ most_symbols)) table_is (there.nodes.small tt) in
        record {
          is = record {
            clauses = clauses_are P all terms there.clauses.numbered there.clauses.are (subst (λ m. AllByRecursion (HasNumbersOf m) there.clauses.numbered) (sym so_many) ordered.clauses)
                (subst (λ us. AllByRecursion (HasOwnNumbers us) there.clauses.numbered) table_is there.clauses.own);
            rows = all_weaker IsRow (AllByRecursion IsShort) row_short there.end.rows there.end.rows_are;
            goals = all_weaker IsRow (AllByRecursion IsShort) row_short there.end.goals there.end.goals_are;
          };
          stands = subst (λ ts. AllByRecursion StandsRight (map (clause_meant ts) there.clauses.numbered)) table_is there.clauses.right;
          fits = record {
            nodes = subst (AllByRecursion (λ t. size t ≤ most_symbols)) (sym walked) small;
            clauses = subst (λ ts. AllByRecursion (λ d. AreUpTo most_symbols (up_to_clause 0 d)) (map (clause_meant ts) there.clauses.numbered)) table_is there.clauses.small;
            together = subst (λ ts. AreUpTo most_certificate_symbols (up_to_clauses 0 (map (clause_meant ts) there.clauses.numbered))) table_is there.clauses.together;
          };
          few = omega (arith, few, many);
          rows = there.end.rows_are;
          goals = there.end.goals_are;
        }

    spelled : SpellsNumbered P bytes c rest
    spelled = record { may = subst (IsNumberable P) (sym is_meant) numberable; text = text_is ∙ ap (λ d. text_with_nodes P d rest) (sym is_meant) }

  pub numbered_there : (bytes : List ℕ) (at : ℕ) (c : Certificate) (p : ℕ) (r : List ℕ) → read_numbered P bytes at ≡ Found c p r → SpellsNumbered P bytes c r
  numbered_there bytes at c p r e = spelled bytes c r (parts_there bytes at c p r e)

  pub both_there : (bytes : List ℕ) (at : ℕ) (c : Certificate) (p : ℕ) (r : List ℕ) → read_in_both P bytes at ≡ Found c p r → SpellsCertificate P bytes c r
  both_there bytes at c p r e =
      chosen (front (drop 5 bytes) == 50) (read_numbered P bytes at) (read_certificate P bytes at) c p r (SpellsCertificate P bytes c r) e
      (λ is told. inr (numbered_there bytes at c p r told))
      (λ isnt told. let there = read_certificate-there P bytes at c p r told in inl record { may = there.is; text = there.text })
