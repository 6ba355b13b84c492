-- Facts that speak of terms alone: their first fault is told.
use Rattle.std.proofs.Common.{ℕ, false, refl, sym, subst, codes}
use Rattle.spec_calculus.specs.Syntax.{Protocol}
use Rattle.spec_terms.specs.Term.{Term}
use Rattle.spec_clauses.specs.Fact.{Fact, Att, Mess}
use Rattle.spec_certificate_text.specs.OfProtocol.{HasNames}
use Rattle.spec_certificate_text.specs.Outcomes.{read_fixed}
use Rattle.spec_certificate_text.specs.Facts.{one_term, read_att, read_mess}
use Rattle.spec_certificate_faults.specs.First.{terms}
use Rattle.spec_first_faults.specs.Kinds.{fixed, behind}
use Rattle.spec_first_faults.specs.Facts.{known, sent}
use Rattle.spec_first_faults.proofs.Tells.{Anything, Tells}
use Rattle.spec_first_faults.proofs.Behind.{then_read, both_tell}
use Rattle.spec_first_faults.proofs.Small.{EndsWord, terms_forms, terms_tell}
use Rattle.spec_first_faults.proofs.Closed.{closed_by, behind_fixed-forms, behind_fixed, closed_thing, closed_forms}
use Rattle.spec_first_faults.proofs.Phases.{in_phase_tells}

-- the last term of a fact
last_term : (P : Protocol) → HasNames P → (f : Term → Fact Term) → Tells ⊥ (behind (terms P) (fixed (codes ")"))) Anything Anything (then_read (one_term P) (λ at t. closed_by (codes ")") (f t)))
last_term P names f = closed_thing (terms P) EndsWord (codes ")") (one_term P) f (terms_tell false P names) (λ rest. refl)

pub known_tells : (P : Protocol) → HasNames P → Tells ⊥ (known P) Anything Anything (read_att P)
known_tells P names =
    in_phase_tells P (codes "att") (behind (terms P) (fixed (codes ")"))) (λ k. then_read (one_term P) (λ at t. closed_by (codes ")") (Att k t))) (λ k. last_term P names (Att k))

second_term : (P : Protocol) → HasNames P → (k : ℕ) (t : Term) → Tells ⊥ (behind (fixed (codes ",")) (behind (terms P) (fixed (codes ")")))) Anything Anything (then_read (read_fixed (codes ",")) (λ at u. then_read (one_term P) (λ at v. closed_by (codes ")") (Mess k t v))))
second_term P names k t = behind_fixed (codes ",") (behind (terms P) (fixed (codes ")"))) Anything (λ at u. then_read (one_term P) (λ at v. closed_by (codes ")") (Mess k t v))) (λ at u. last_term P names (Mess k t))

both_terms : (P : Protocol) → HasNames P → (k : ℕ) → Tells ⊥ (behind (terms P) (behind (fixed (codes ",")) (behind (terms P) (fixed (codes ")"))))) Anything Anything
    (then_read (one_term P) (λ at t. then_read (read_fixed (codes ",")) (λ at u. then_read (one_term P) (λ at v. closed_by (codes ")") (Mess k t v)))))
both_terms P names k =
    both_tell (terms P) (behind (fixed (codes ",")) (behind (terms P) (fixed (codes ")")))) Anything Anything EndsWord Anything (one_term P)
    (λ at t. then_read (read_fixed (codes ",")) (λ at u. then_read (one_term P) (λ at v. closed_by (codes ")") (Mess k t v))))
    (terms_tell false P names) (λ at t. second_term P names k t)
    (behind_fixed-forms (codes ",") (behind (terms P) (fixed (codes ")"))) Anything (closed_forms (terms P) EndsWord (codes ")") (terms_forms false P names) (λ rest. refl)))
    (λ bs rest text. subst EndsWord (sym text.1) refl) (λ bs mid of text. tt)

pub sent_tells : (P : Protocol) → HasNames P → Tells ⊥ (sent P) Anything Anything (read_mess P)
sent_tells P names =
    in_phase_tells P (codes "mess") (behind (terms P) (behind (fixed (codes ",")) (behind (terms P) (fixed (codes ")")))))
    (λ k. then_read (one_term P) (λ at t. then_read (read_fixed (codes ",")) (λ at u. then_read (one_term P) (λ at v. closed_by (codes ")") (Mess k t v)))))
    (both_terms P names)
