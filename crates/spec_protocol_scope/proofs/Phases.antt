-- What holds of the phases that the rules of scope give.
use Rattle.std.proofs.Common.{◌≡◌, ℕ, ◌<◌, ◌≤◌, nat_le, Option, None, Some, Ok, inl, inr, subst, ◌∙◌, sym, arith}
use Rattle.std.proofs.lemmas.Bool.{leb-true, leb-false}
use Rattle.spec_calculus.specs.Bounds.{most_phases}
use Rattle.spec_calculus.specs.Syntax.{Process}
use Rattle.spec_calculus.specs.Points.{greatest_phase}
use Rattle.spec_protocol_scope.specs.Answers.{PhaseOrder, fault}
use Rattle.spec_protocol_scope.specs.Names.{Texts, decimal}
use Rattle.spec_protocol_scope.specs.Phases.{named_phase, later_phase, asked_phase}
use Rattle.spec_protocol_scope.proofs.Stepped.{stepped, passed, faulty, kept, chosen, found, found_one}
use Rattle.spec_protocol_scope.proofs.Solid.{IsSolidPhase}

within_limit : (text : Texts) (n number : ℕ) → named_phase text n ≡ Ok number → number ≤ most_phases
within_limit text n number e =
    let k = kept (nat_le (decimal (text n)) most_phases) n (decimal (text n)) number e in
    subst (λ (x : ℕ). x ≤ most_phases) (sym k.1) (leb-true (decimal (text n)) most_phases k.0)

-- the phase that a process waits for is later than the one in force, and within the limit
pub phase_named : (text : Texts) (now n number : ℕ) → later_phase text now n ≡ Ok number → (now < number) × (number ≤ most_phases)
phase_named text now n number e =
    let a = stepped (named_phase text n) _ number e in
    elim (chosen (nat_le a.value now) (fault PhaseOrder n) (found a.value) number a.later) [
      | inl h ↦ absurd (faulty PhaseOrder n number h.1)
      | inr h ↦ let same : a.value ≡ number = found_one a.value number h.1 in
          (subst (λ (x : ℕ). now < x) same (leb-false a.value now h.0), subst (λ (x : ℕ). x ≤ most_phases) same (within_limit text n a.value a.first))
    ]

-- the phase that a query asks of is none past the greatest, and 0 where a plain process is asked of in a plain file
pub record AskedPhase (Plain : Type 0) (main : Process) (phase : ℕ) : Type 0 where
  pub up : phase ≤ greatest_phase main
  pub plain : Plain → greatest_phase main ≡ 0 → phase ≡ 0

pub phase_asked : (Plain : Type 0) (text : Texts) (main : Process) (o : Option ℕ) → IsSolidPhase Plain o → (phase : ℕ) → asked_phase text main o ≡ Ok phase → AskedPhase Plain main phase
phase_asked Plain text main None solid phase e =
    let same : greatest_phase main ≡ phase = found_one (greatest_phase main) phase e in
    record { up = subst (λ (x : ℕ). x ≤ greatest_phase main) same (omega arith); plain = λ p none. sym same ∙ none }
phase_asked Plain text main (Some n) solid phase e =
    let a = stepped (named_phase text n) _ phase e in
    let p = passed (nat_le a.value (greatest_phase main)) a.value phase (fault PhaseOrder n) (faulty PhaseOrder n) a.later in
    record { up = subst (λ (x : ℕ). x ≤ greatest_phase main) (sym p.1) (leb-true a.value (greatest_phase main) p.0); plain = λ plain. absurd (solid plain) }
