-- Lines of clauses by numbers: a reader of them goes on with the walk, and tells the first fault.
use Rattle.std.proofs.Common.{List, [], ◌∷◌, ◌++◌, codes, refl}
use Rattle.spec_calculus.specs.Syntax.{Protocol}
use Rattle.spec_terms.specs.Term.{Term}
use Rattle.spec_clauses.specs.Fact.{Fact, Clause}
use Rattle.spec_certificate_text.specs.OfProtocol.{HasNames}
use Rattle.spec_certificate_text.specs.Sides.{meant_clause}
use Rattle.spec_certificate_text.specs.Outcomes.{Reader}
use Rattle.spec_certificate_text.specs.Clauses.{Premises}
use Rattle.spec_first_faults.specs.Kinds.{fixed}
use Rattle.spec_first_faults.proofs.Tells.{Anything}
use Rattle.spec_first_faults.proofs.Behind.{then_read}
use Rattle.spec_first_faults.proofs.Closed.{closed_by}
use Rattle.spec_node_reading.specs.Kinds.{KindIn, kept, behind}
use Rattle.spec_node_reading.specs.Walked.{Walked, next_clause}
use Rattle.spec_node_reading.specs.Loops.{Behind, with}
use Rattle.spec_node_reading.specs.Facts.{hypotheses, conclusions}
use Rattle.spec_node_reading.specs.Clauses.{premises, clause_lines}
use Rattle.spec_node_reading.specs.ReadClauses.{read_conclusion, read_premises, read_clause_line}
use Rattle.spec_node_first_faults.proofs.InState.{FormsIn, TellsIn, both_forms-in, both_tell-in}
use Rattle.spec_node_first_faults.proofs.InClosed.{closed_thing-forms, closed_thing-in, opened_forms, opened_tells}
use Rattle.spec_node_first_faults.proofs.InRows.{walked_of}
use Rattle.spec_node_first_faults.proofs.WalkedFacts.{conclusions_forms, conclusions_tell}
use Rattle.spec_node_first_faults.proofs.WalkedPremises.{premises_forms, premises_tell}

module _ (P : Protocol) (names : HasNames P) (table : List Term) where
  -- Lines.

  abbrev pub line_end : KindIn Walked
  line_end = behind (conclusions P table) (kept (fixed (codes "\n")))

  abbrev pub line_rest : KindIn Walked
  line_rest = behind (premises P table) line_end

  end_forms : FormsIn line_end Anything
  end_forms = closed_thing-forms (conclusions P table) Anything (codes "\n") (conclusions_forms P names table) (λ rest. tt)

  pub rest_forms : FormsIn line_rest Anything
  rest_forms = both_forms-in (premises P table) line_end Anything Anything (premises_forms P names table) end_forms (λ bs rest text. tt)

  pub line_forms : FormsIn (clause_lines P table) Anything
  line_forms = opened_forms (codes "c ") next_clause line_rest Anything rest_forms

  abbrev with_clause : Behind (List (Clause Term)) → Behind Premises → Behind (Fact Term) → Behind (List (Clause Term))
  with_clause before ps f = with (before.value ++ meant_clause record { hypotheses = ps.value.hypotheses; diffs = ps.value.diffs; conclusion = f.value } ∷ []) f.walked

  abbrev read_end : Behind (List (Clause Term)) → Behind Premises → Reader (Behind (List (Clause Term)))
  read_end before ps = then_read (read_conclusion P table ps.walked) (λ at f. closed_by (codes "\n") (with_clause before ps f))

  pub line_tells : (before : Behind (List (Clause Term))) → TellsIn (clause_lines P table) before.walked Anything Anything walked_of (read_clause_line P table before)
  line_tells before =
      let v = next_clause before.walked in
      opened_tells (codes "c ") next_clause before.walked line_rest Anything walked_of (then_read (read_premises P table v) (λ at ps. read_end before ps))
      (both_tell-in (premises P table) line_end v Anything Anything Anything Anything walked_of walked_of (read_premises P table v) (λ at ps. read_end before ps) (premises_tell P names table v)
      (λ at ps. closed_thing-in (conclusions P table) ps.walked Anything (codes "\n") walked_of walked_of (read_conclusion P table ps.walked) (with_clause before ps) (conclusions_tell P names table ps.walked) (conclusions_forms P names table) (λ rest. tt) (λ x. refl))
      (premises_forms P names table) end_forms (λ bs rest text. tt) (λ bs mid of text. tt))
      rest_forms
