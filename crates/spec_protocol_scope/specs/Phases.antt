-- The phases that a file names: each is later than the one in force where it stands, and a query asks of one of them.
use Rattle.std.specs.Prelude.{ℕ, nat_le, if◌then◌else◌, Option, Some, None, Ok}
use Rattle.spec_calculus.specs.Bounds.{most_phases}
use Rattle.spec_calculus.specs.Syntax.{Process}
use Rattle.spec_calculus.specs.Points.{greatest_phase}
use Rattle.spec_protocol_scope.specs.Answers.{Answer, PhaseOrder, fault, within, ◌>>=◌}
use Rattle.spec_protocol_scope.specs.Names.{Texts, decimal}

-- the phase that a number spells, which is within the limit of phases
abbrev pub named_phase : Texts → ℕ → Answer ℕ
named_phase text n = within (nat_le (decimal (text n)) most_phases) n (decimal (text n))

-- the phase that a process waits for where this one is in force
abbrev pub later_phase : Texts → (now : ℕ) → ℕ → Answer ℕ
later_phase text now n = do
  number ← named_phase text n
  if nat_le number now then fault PhaseOrder n else Ok number

-- the phase that a query asks of, by the number behind the word `phase`; without one it is the greatest of the process
abbrev pub asked_phase : Texts → Process → Option ℕ → Answer ℕ
asked_phase text main None = Ok (greatest_phase main)
asked_phase text main (Some n) = do
  number ← named_phase text n
  if nat_le number (greatest_phase main) then Ok number else fault PhaseOrder n
