-- Certificates of both formats, and reports that have them: readers of them tell the first fault.
use Rattle.std.proofs.Common.{◌≡◌, ℕ, ◌==◌, inl, inr, Bool, true, false, List, [], length, drop, codes, refl}
use Rattle.spec_calculus.specs.Bounds.{most_clauses}
use Rattle.spec_calculus.specs.Syntax.{Protocol}
use Rattle.spec_certificate_text.specs.OfProtocol.{HasNames}
use Rattle.spec_certificate_text.specs.Certificates.{read_certificate}
use Rattle.spec_certificate_text.specs.Outcomes.{front}
use Rattle.spec_certificate_text.specs.Reports.{claims_by}
use Rattle.spec_certificate_faults.proofs.Comes.{either}
use Rattle.spec_first_faults.specs.Kinds.{one_of}
use Rattle.spec_first_faults.specs.Clauses.{certificates}
use Rattle.spec_first_faults.specs.Reports.{AtEnd}
use Rattle.spec_first_faults.proofs.Tells.{Anything, IsLast, Tells, IsSameKind, kind_tells, tells_of}
use Rattle.spec_first_faults.proofs.OneOf.{told_by_fixed, either_told, one_of_tells}
use Rattle.spec_first_faults.proofs.Clauses.{clauses_and_rows, certificates_tell}
use Rattle.spec_first_faults.proofs.Reports.{claims_tell}
use Rattle.spec_node_reading.specs.Clauses.{numbered_certificates, certificates_of_both}
use Rattle.spec_node_reading.specs.Reading.{read_numbered, read_in_both}
use Rattle.spec_node_reading.specs.Reports.{reports_of_both}
use Rattle.spec_node_first_faults.proofs.Alike.{shared_local}
use Rattle.spec_node_first_faults.proofs.Numbered.{all_nodes, nodes_tell, numbered_tell}

module _ (P : Protocol) (names : HasNames P) where
  -- the sixth byte tells the format
  abbrev is_numbered : List ℕ → Bool
  is_numbered bs = front (drop 5 bs) == 50

  in_turn : IsSameKind (one_of (numbered_certificates P) (certificates P)) (certificates_of_both P)
  in_turn = record {
    text = λ bytes rest text. either text (λ k. inr k) (λ l. inl l);
    text_back = λ bytes rest text. either text (λ k. inr k) (λ l. inl l);
    fault = λ code bytes there fault. either fault (λ k. inr k) (λ l. inl l);
    fault_back = λ code bytes there fault. either fault (λ k. inr k) (λ l. inl l);
  }

  -- a certificate in either format is read, and its first fault told
  pub in_both-tell : Tells ⊥ (certificates_of_both P) Anything Anything (read_in_both P)
  in_both-tell =
      let numbered = numbered_certificates P in
      let plain = certificates P in
      kind_tells (one_of numbered plain) (certificates_of_both P) Anything Anything (read_in_both P) in_turn
      (one_of_tells numbered plain Anything Anything is_numbered (read_numbered P) (read_certificate P)
      (tells_of numbered Anything (λ bs. Anything bs × (is_numbered bs ≡ true)) Anything (read_numbered P) (λ bs of. tt) (numbered_tell P names))
      (tells_of plain Anything (λ bs. Anything bs × (is_numbered bs ≡ false)) Anything (read_certificate P) (λ bs of. tt) (certificates_tell P names))
      (told_by_fixed (codes "cert 2\n") _ is_numbered true (λ rest. refl)) (told_by_fixed (codes "cert 1\n") _ is_numbered false (λ rest. refl))
      (shared_local (codes "cert ") (codes "2\n") (codes "1\n") (λ b. b == 50) (all_nodes P names) _ (nodes_tell P names).local (clauses_and_rows P names most_clauses).local))

  -- a report whose certificates are of either format is read, and its first fault told
  pub report_in_both-tells : Tells IsLast (reports_of_both P) Anything AtEnd (claims_by (read_in_both P) (length P.queries) 1 [])
  report_in_both-tells =
      claims_tell (certificates_of_both P) (read_in_both P)
      record {
        tells = in_both-tell;
        begins = either_told (certificates P) (numbered_certificates P) (λ bs. front bs == 99) true (told_by_fixed (codes "cert 1\n") _ (λ bs. front bs == 99) true (λ rest. refl)) (told_by_fixed (codes "cert 2\n") _ (λ bs. front bs == 99) true (λ rest. refl));
      }
      (length P.queries) 1 []
