-- Bytes have one answer: the steps that they spell, or a fault at one line.
use Rattle.std.proofs.Common.{◌≡◌, ℕ, List, sym, ap, ◌∙◌, inl, inr, Result, Ok, Err, ◌↔◌}
use Rattle.spec_calculus.specs.Runs.{Step}
use Rattle.spec_run_text.specs.Lines.{lines}
use Rattle.spec_run_text.specs.Faults.{Fault}
use Rattle.spec_run_text.specs.Text.{SpellsRun, IsRefused}
use Rattle.spec_run_text.specs.Reading.{reading}
use Rattle.spec_run_text.specs.Laws.{HasAnswer}
use Rattle.spec_run_text.proofs.Lines.{TellsAll, read_lines-tells, read_lines-SpellEach, read_lines-FirstFault}

reading-Ok : (bytes : List ℕ) (steps : List Step) → reading bytes ≡ Ok steps → SpellsRun bytes steps
reading-Ok bytes steps e = rw e at (read_lines-tells 1 (lines bytes))

reading-Err : (bytes : List ℕ) (fault : Fault) (number : ℕ) → reading bytes ≡ Err (fault, number) → IsRefused bytes fault number
reading-Err bytes fault number e = rw e at (read_lines-tells 1 (lines bytes))

pub reading_is_spelling : (bytes : List ℕ) (steps : List Step) → (reading bytes ≡ Ok steps) ↔ SpellsRun bytes steps
reading_is_spelling bytes steps = (reading-Ok bytes steps, read_lines-SpellEach 1 (lines bytes) steps)

pub reading_is_refusal : (bytes : List ℕ) (fault : Fault) (number : ℕ) → (reading bytes ≡ Err (fault, number)) ↔ IsRefused bytes fault number
reading_is_refusal bytes fault number = (reading-Err bytes fault number, read_lines-FirstFault 1 (lines bytes) fault number)

pub one_run : (bytes : List ℕ) (xs ys : List Step) → SpellsRun bytes xs → SpellsRun bytes ys → xs ≡ ys
one_run bytes xs ys p q =
    let e = sym (read_lines-SpellEach 1 (lines bytes) xs p) ∙ read_lines-SpellEach 1 (lines bytes) ys q in
    cc e

both : {A B : Type 0} {a b : A} {x y : B} → ◌≡◌ {A = A × B} (a, x) (b, y) → (a ≡ b) × (x ≡ y)
both e = (ap (λ p. p.0) e, ap (λ p. p.1) e)

pub one_refusal : (bytes : List ℕ) (f g : Fault) (i j : ℕ) → IsRefused bytes f i → IsRefused bytes g j → (f ≡ g) × (i ≡ j)
one_refusal bytes f g i j p q =
    let e = sym (read_lines-FirstFault 1 (lines bytes) f i p) ∙ read_lines-FirstFault 1 (lines bytes) g j q in
    both (cc e)

pub never_both : (bytes : List ℕ) (steps : List Step) (fault : Fault) (number : ℕ) → SpellsRun bytes steps → IsRefused bytes fault number → ⊥
never_both bytes steps fault number p q =
    let e = sym (read_lines-SpellEach 1 (lines bytes) steps p) ∙ read_lines-FirstFault 1 (lines bytes) fault number q in
    cc e

answer_by : (bytes : List ℕ) (r : Result (List Step) (Fault × ℕ)) → TellsAll 1 (lines bytes) r → HasAnswer bytes
answer_by bytes (Ok steps) spelled = inl (steps, spelled)
answer_by bytes (Err refusal) refused = inr (refusal.0, (refusal.1, refused))

pub always_one : (bytes : List ℕ) → HasAnswer bytes
always_one bytes = answer_by bytes (reading bytes) (read_lines-tells 1 (lines bytes))
