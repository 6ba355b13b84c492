-- Fixed bytes before a thing, and behind it: readers tell the first fault.
use Rattle.std.proofs.Common.{ℕ, List, ◌++◌, sym, subst}
use Rattle.spec_certificate_text.specs.Outcomes.{Reader, read_fixed}
use Rattle.spec_certificate_faults.specs.First.{Kind}
use Rattle.spec_first_faults.specs.Kinds.{fixed, behind}
use Rattle.spec_first_faults.proofs.Tells.{Anything, Forms, Tells, mapped, mapped_tells}
use Rattle.spec_first_faults.proofs.Behind.{then_read, both_forms, both_tell}
use Rattle.spec_first_faults.proofs.Small.{fixed_forms, fixed_tells}

-- fixed bytes, and then the thing is there
abbrev pub closed_by : {A : Type 0} → List ℕ → A → Reader A
closed_by ws x = mapped (λ (u : Unit {0}). x) (read_fixed ws)

pub closed_tells : {A : Type 0} (ws : List ℕ) (x : A) → Tells ⊥ (fixed ws) Anything Anything (closed_by ws x)
closed_tells ws x = mapped_tells (fixed ws) Anything Anything (read_fixed ws) (λ u. x) (fixed_tells ws)

-- fixed bytes, and what follows them
pub behind_fixed-forms : {Last : Type 0} (ws : List ℕ) (L : Kind) (Must : List ℕ → Type 0) → Forms Last L Must → Forms Last (behind (fixed ws) L) Must
behind_fixed-forms ws L Must forms = both_forms (fixed ws) L Anything Must (fixed_forms ws) forms (λ bs rest text. tt)

pub behind_fixed : {B : Type 0} {Last : Type 0} (ws : List ℕ) (L : Kind) (Must : List ℕ → Type 0) (m : ℕ → Unit {0} → Reader B) → ((at : ℕ) (u : Unit {0}) → Tells Last L Anything Must (m at u)) → Tells Last (behind (fixed ws) L) Anything Must (then_read (read_fixed ws) m)
behind_fixed ws L Must m second = both_tell (fixed ws) L Anything Anything Anything Must (read_fixed ws) m (fixed_tells ws) second (second 0 tt).forms (λ bs rest text. tt) (λ bs mid of text. tt)

-- a thing, and fixed bytes behind it that may follow it
pub closed_thing : {A B : Type 0} (K : Kind) (May : List ℕ → Type 0) (ws : List ℕ) (r : Reader A) (f : A → B) → Tells ⊥ K Anything May r → ((rest : List ℕ) → May (ws ++ rest)) → Tells ⊥ (behind K (fixed ws)) Anything Anything (then_read r (λ at x. closed_by ws (f x)))
closed_thing K May ws r f first may =
    both_tell K (fixed ws) Anything Anything May Anything r (λ at x. closed_by ws (f x)) first (λ at x. closed_tells ws (f x)) (fixed_forms ws) (λ bs rest text. subst May (sym text) (may rest)) (λ bs mid of text. tt)

pub closed_forms : (K : Kind) (May : List ℕ → Type 0) (ws : List ℕ) → Forms ⊥ K May → ((rest : List ℕ) → May (ws ++ rest)) → Forms ⊥ (behind K (fixed ws)) Anything
closed_forms K May ws first may = both_forms K (fixed ws) May Anything first (fixed_forms ws) (λ bs rest text. subst May (sym text) (may rest))
