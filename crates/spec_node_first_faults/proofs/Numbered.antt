-- Certificates by numbers: a reader of them tells the first fault.
use Rattle.std.proofs.Common.{◌≡◌, ℕ, ◌==◌, false, List, [], codes, refl, ap}
use Rattle.spec_calculus.specs.Syntax.{Protocol}
use Rattle.spec_terms.specs.Term.{Term}
use Rattle.spec_certificates.specs.Certificate.{Certificate}
use Rattle.spec_certificate_text.specs.OfProtocol.{HasNames}
use Rattle.spec_certificate_text.specs.Outcomes.{front, Reader}
use Rattle.spec_first_faults.specs.Kinds.{last, further}
use Rattle.spec_first_faults.proofs.Tells.{Anything, Tells, kind_tells}
use Rattle.spec_first_faults.proofs.Behind.{then_read}
use Rattle.spec_first_faults.proofs.OneOf.{told_by_front}
use Rattle.spec_first_faults.proofs.Many.{AreLines}
use Rattle.spec_first_faults.proofs.Closed.{behind_fixed}
use Rattle.spec_first_faults.proofs.Clauses.{any_follows}
use Rattle.spec_node_reading.specs.Kinds.{KindIn, in_state, texts_of, many}
use Rattle.spec_node_reading.specs.Nodes.{node_lines}
use Rattle.spec_node_reading.specs.Clauses.{behind_table, numbered_certificates}
use Rattle.spec_node_reading.specs.ReadNodes.{read_node_line, read_nodes}
use Rattle.spec_node_reading.specs.Reading as reading
use Rattle.spec_node_reading.specs.Reading.{read_numbered}
use Rattle.spec_node_first_faults.proofs.InState.{tells_of-in}
use Rattle.spec_node_first_faults.proofs.InMany.{all_lines-in}
use Rattle.spec_node_first_faults.proofs.InEnds.{ending, ending_forms, ending_tells, many_ends}
use Rattle.spec_node_first_faults.proofs.ReachedRows.{rows_told}
use Rattle.spec_node_first_faults.proofs.BehindNodes.{behind_nodes-tell}
use Rattle.spec_node_first_faults.proofs.NodeLines.{terms_of_nodes, node_lines-forms, node_lines-tell, node_begins, node_long, node_within}

module _ (P : Protocol) (names : HasNames P) where
  abbrev table_last : KindIn (List Term)
  table_last = ending (behind_table P) []

  table_tells : (table : List Term) → Tells ⊥ (in_state (behind_table P) table) Anything Anything (reading.behind_nodes P table)
  table_tells table = behind_nodes-tell P names table

  -- no clause, no row and no last line begins so
  table_front : (bytes rest : List ℕ) → (behind_table P).Text bytes rest → (front bytes == 110) ≡ false
  table_front bytes rest (last rows) = (rows_told (λ b. b == 110) false refl refl refl).texts bytes rest rows
  table_front bytes rest (further mid (inner, opens, later) more) = ap (λ bs. front bs == 110) opens

  lines_are : (table : List Term) → AreLines (in_state (node_lines P) table) (in_state table_last table) 110
  lines_are table = record {
    begins = node_begins P names table;
    ends = told_by_front (in_state table_last table) Anything (λ b. b == 110) false (table_tells table).forms table_front;
    letter_is = refl;
    long = node_long P names table;
    within = node_within P names table;
  }

  abbrev pub all_nodes : Reader Certificate
  all_nodes = then_read (read_nodes P) (λ at table. reading.behind_nodes P table)

  pub nodes_tell : Tells ⊥ (in_state (many (node_lines P) (behind_table P)) []) Anything Anything all_nodes
  nodes_tell =
      kind_tells (in_state (many (node_lines P) table_last) []) (in_state (many (node_lines P) (behind_table P)) []) Anything Anything all_nodes (many_ends (node_lines P) (behind_table P) [] [])
      (all_lines-in (node_lines P) table_last Anything Anything 110 terms_of_nodes (λ (c : Certificate). []) (read_node_line P) (λ table. reading.behind_nodes P table) (node_lines-tell P names)
      (λ table. tells_of-in table_last table Anything (λ bs. (front bs == 110) ≡ false) Anything (λ (c : Certificate). []) (reading.behind_nodes P table) (λ bs of. tt) (ending_tells (behind_table P) [] table Anything Anything (reading.behind_nodes P table) (table_tells table)))
      (node_lines-forms P names) (ending_forms (behind_table P) [] Anything (λ table. (table_tells table).forms)) lines_are (any_follows (texts_of (node_lines P)) (texts_of table_last)) []).tells

  -- a certificate by numbers is read, and its first fault told
  pub numbered_tell : Tells ⊥ (numbered_certificates P) Anything Anything (read_numbered P)
  numbered_tell = behind_fixed (codes "cert 2\n") (in_state (many (node_lines P) (behind_table P)) []) Anything (λ _ _. all_nodes) (λ at u. nodes_tell)
