-- What stands behind the nodes: a reader of the clauses, the rows and the last line tells the first fault.
use Rattle.std.proofs.Common.{◌≡◌, ℕ, ◌+◌, ◌≤◌, ◌==◌, inl, inr, true, false, List, [], ◌∷◌, length, codes, refl, ap, arith, length-append}
use Rattle.spec_calculus.specs.Bounds.{most_clauses}
use Rattle.spec_calculus.specs.Syntax.{Protocol}
use Rattle.spec_terms.specs.Term.{Term}
use Rattle.spec_clauses.specs.Fact.{Clause}
use Rattle.spec_certificates.specs.Certificate.{Certificate}
use Rattle.spec_certificate_text.specs.OfProtocol.{HasNames}
use Rattle.spec_certificate_text.specs.Terms.{Code}
use Rattle.spec_certificate_text.specs.Outcomes.{front}
use Rattle.spec_first_faults.specs.Clauses.{rows_and_end}
use Rattle.spec_first_faults.proofs.Tells.{Anything, Tells, there_shorter, kind_tells}
use Rattle.spec_first_faults.proofs.OneOf.{told_alone}
use Rattle.spec_first_faults.proofs.Many.{AreLines}
use Rattle.spec_first_faults.proofs.Clauses.{begun_long, any_follows}
use Rattle.spec_node_reading.specs.Kinds.{KindIn, in_state, kept, changing, marked, texts_of, at_most}
use Rattle.spec_node_reading.specs.Walked.{Walked, nothing_yet, next_clause}
use Rattle.spec_node_reading.specs.Loops.{Behind, with}
use Rattle.spec_node_reading.specs.Clauses.{clause_lines, ReachedFault, behind_nodes}
use Rattle.spec_node_reading.specs.ReadClauses.{read_clause_line}
use Rattle.spec_node_reading.specs.Reading as reading
use Rattle.spec_node_reading.specs.Reading.{behind_clauses}
use Rattle.spec_node_first_faults.proofs.InState.{tells_of-in}
use Rattle.spec_node_first_faults.proofs.InMany.{behind_told-in, through_then, at_most-tells-in}
use Rattle.spec_node_first_faults.proofs.InRows.{walked_of}
use Rattle.spec_node_first_faults.proofs.InEnds.{ending, ending_forms, ending_tells, at_most_ends}
use Rattle.spec_node_first_faults.proofs.WalkedClauses.{line_rest, rest_forms, line_forms, line_tells}
use Rattle.spec_node_first_faults.proofs.ReachedRows.{no_clause, rows_tell}

module _ (P : Protocol) (names : HasNames P) (table : List Term) where
  abbrev rows : KindIn Walked
  rows = marked (kept rows_and_end) (ReachedFault P table)

  abbrev rows_last : KindIn Walked
  rows_last = ending rows nothing_yet

  abbrev no_clauses : Walked → Behind (List (Clause Term))
  no_clauses w = with [] w

  lines_within : (w : Walked) (code : Code) (bytes there : List ℕ) → (clause_lines P table).Fault w code bytes there → length there + 1 ≤ length bytes
  lines_within w code bytes there (inl none) = absurd none
  lines_within w code bytes there (inr (mid, t, leads, fault)) =
      let less = there_shorter ⊥ (in_state (line_rest P names table) t) mid there (((rest_forms P names table).each t).past code mid there fault) in
      omega (arith, less, ap length leads.0, length-append (codes "c ") mid)

  lines_are : (w : Walked) → AreLines (in_state (clause_lines P table) w) (in_state rows_last w) 99
  lines_are w = record {
    begins = behind_told-in (changing (codes "c ") next_clause) (line_rest P names table) w (λ bs. front bs == 99) true (λ bytes rest t leads. leads.0) (told_alone (codes "c ") (λ bs. front bs == 99) true (λ rest. refl));
    ends = no_clause P table (no_clauses w);
    letter_is = refl;
    long = begun_long 99 (32 ∷ []) (in_state (line_rest P names table) w) Anything ((rest_forms P names table).each w);
    within = lines_within w;
  }

  at_most_tell : (most : ℕ) (cs : Behind (List (Clause Term))) → Tells ⊥ (in_state (at_most most 99 (clause_lines P table) rows) cs.walked) Anything Anything (through_then 99 (read_clause_line P table) most cs (λ ds. behind_clauses table ds))
  at_most_tell most cs =
      kind_tells (in_state (at_most most 99 (clause_lines P table) rows_last) cs.walked) (in_state (at_most most 99 (clause_lines P table) rows) cs.walked) Anything Anything (through_then 99 (read_clause_line P table) most cs (λ ds. behind_clauses table ds))
      (at_most_ends (clause_lines P table) rows nothing_yet most 99 cs.walked)
      (at_most-tells-in (clause_lines P table) rows_last Anything Anything 99 walked_of (λ (c : Certificate). nothing_yet) (read_clause_line P table) (λ ds. behind_clauses table ds) (λ ds. line_tells P names table ds)
      (λ ds. tells_of-in rows_last ds.walked Anything (λ bs. (front bs == 99) ≡ false) Anything (λ (c : Certificate). nothing_yet) (behind_clauses table ds) (λ bs of. tt) (ending_tells rows nothing_yet ds.walked Anything Anything (behind_clauses table ds) (rows_tell P table ds))) (line_forms P names table) (ending_forms rows nothing_yet Anything (λ w. (rows_tell P table (no_clauses w)).forms)) lines_are
      (any_follows (texts_of (clause_lines P table)) (texts_of rows_last)) most cs).tells

  -- what stands behind the nodes is read, and its first fault told
  pub behind_nodes-tell : Tells ⊥ (in_state (behind_nodes P table) nothing_yet) Anything Anything (reading.behind_nodes P table)
  behind_nodes-tell = at_most_tell most_clauses (no_clauses nothing_yet)
