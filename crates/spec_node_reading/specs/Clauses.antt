-- The kinds of clauses by numbers, and of certificates by numbers, as the grammar has them.
use Rattle.std.specs.Prelude.{◌≡◌, ℕ, ◌⊎◌, false, List, [], codes}
use Rattle.spec_calculus.specs.Bounds.{most_clauses}
use Rattle.spec_calculus.specs.Syntax.{Protocol}
use Rattle.spec_terms.specs.Term.{Term}
use Rattle.spec_certificate_text.specs.Terms.{Code, NodeOrder}
use Rattle.spec_certificate_text.specs.Outcomes.{front}
use Rattle.spec_certificate_faults.specs.First.{Kind}
use Rattle.spec_first_faults.specs.Kinds.{fixed}
use Rattle.spec_first_faults.specs.Kinds as plain
use Rattle.spec_first_faults.specs.Clauses.{certificates, rows_and_end}
use Rattle.spec_node_faults.specs.Clauses.{is_front, completed}
use Rattle.spec_node_reading.specs.Kinds.{KindIn, in_state, kept, changing, behind, one_of, marked, many, at_most, row_of}
use Rattle.spec_node_reading.specs.Nodes.{node_lines}
use Rattle.spec_node_reading.specs.Walked.{Walked, nothing_yet, next_clause}
use Rattle.spec_node_reading.specs.Facts.{hypotheses, conclusions, diffs}

-- Where the table has these terms.
module _ (P : Protocol) (table : List Term) where
  -- constraints, a comma and a space between each two, and ` => `
  abbrev pub constraints : KindIn Walked
  constraints = row_of (diffs P table) (codes ", ") (codes " => ")

  -- hypotheses, and then constraints, a comma and a space between each two, and ` => `; or `=> ` alone
  abbrev pub premises : KindIn Walked
  premises = one_of (kept (fixed (codes "=> ")))
      (many (behind (hypotheses P table) (kept (fixed (codes ", ")))) (one_of (behind (hypotheses P table) (kept (fixed (codes " => ")))) constraints))

  -- `c `, a clause and the end of its line
  abbrev pub clause_lines : KindIn Walked
  clause_lines = behind (changing (codes "c ") next_clause) (behind premises (behind (conclusions P table) (kept (fixed (codes "\n")))))

  -- NodeOrder: a row or the last line begins, and some node of the table was never reached
  pub record IsUnreached (w : Walked) (bytes : List ℕ) : Type 0 where
    pub letter : (front bytes ≡ 114) ⊎ ((front bytes ≡ 103) ⊎ (front bytes ≡ 101))
    pub left : is_front table (completed w.seen) ≡ false

  abbrev pub ReachedFault : Walked → Code → List ℕ → Type 0
  ReachedFault w NodeOrder bytes = IsUnreached w bytes
  ReachedFault w code bytes = ⊥

  -- what stands behind the nodes: the clauses, of which there are no more than the limit, the rows, and the last line
  abbrev pub behind_nodes : KindIn Walked
  behind_nodes = at_most most_clauses 99 clause_lines (marked (kept rows_and_end) ReachedFault)

-- the same behind nodes of which these are the terms
abbrev pub behind_table : Protocol → KindIn (List Term)
behind_table P = record {
  Text = (behind_nodes P []).Text;
  Leads = λ table bytes rest after. (behind_nodes P table).Text bytes rest × (after ≡ table);
  Fault = λ table. (behind_nodes P table).Fault nothing_yet;
}

-- a certificate by numbers: its first line, the nodes, the clauses, the rows, and its last line
abbrev pub numbered_certificates : Protocol → Kind
numbered_certificates P = plain.behind (fixed (codes "cert 2\n")) (in_state (many (node_lines P) (behind_table P)) [])

-- a certificate in the one format or the other
abbrev pub certificates_of_both : Protocol → Kind
certificates_of_both P = plain.one_of (certificates P) (numbered_certificates P)
