-- The steps of a run, of which some are read already, and `end` behind them.
use Rattle.std.proofs.Common.{◌≡◌, ◌≢◌, ℕ, ◌+◌, ◌-◌, ◌<◌, ◌≤◌, List, [], ◌∷◌, ◌++◌, length, drop, codes, refl, ap}
use Rattle.spec_certificate_text.specs.Terms as terms
use Rattle.spec_certificate_text.specs.Outcomes.{Outcome, Found, Faulty, next, front, read_fixed, lines_from}
use Rattle.spec_certificate_text.specs.Reports.{read_step, read_run}
use Rattle.fact_reader.specs.declared.error.CertError.{CertError}
use Rattle.fact_reader.specs.Gives.{HasFault}
use Rattle.fact_reader.proofs.Things.{next_fault}
use Rattle.cert_text.proofs.Lines.{AreRead, rows_start, lines_on, lines_fault, lines_end, lines_over}

-- some steps are read, and reading of at most so many more goes on with the rest
pub record Running (bytes : List ℕ) (at most : ℕ) (rest : List ℕ) (place : ℕ) : Type 0 where
  pub steps : List (Unit {0})
  pub are : AreRead 115 read_step (lines_from 115 read_step (length bytes) [] bytes at) most rest place steps

abbrev behind_steps : List (Unit {0}) → ℕ → List ℕ → Outcome (Unit {0})
behind_steps us p r = read_fixed (codes "end\n") r p

-- from the first step on
pub run_start : (bytes : List ℕ) (at : ℕ) → Running (drop at bytes) at (length bytes - at) (drop at bytes) at
run_start bytes at = record { steps = []; are = rows_start 115 read_step bytes at [] refl }

pub run_on : (bytes : List ℕ) (at most round : ℕ) (rest : List ℕ) (place b : ℕ) (u : Unit {0}) (behind : List ℕ) (p : ℕ) → Running bytes at (most - round) rest place → round < most → b ≡ front rest → b ≡ 115
    → read_step rest place ≡ Found u p behind → Running bytes at (most - (round + 1)) behind p
run_on bytes at most round rest place b u behind p running more byte begins found = record {
  steps = running.steps ++ u ∷ [];
  are = lines_on 115 read_step (lines_from 115 read_step (length bytes) [] bytes at) most round rest place running.steps b behind p (running.steps ++ u ∷ []) u refl running.are more byte begins found;
}

pub run_fault : (bytes : List ℕ) (at most round : ℕ) (rest : List ℕ) (place b : ℕ) (e : CertError) → Running bytes at (most - round) rest place → round < most → b ≡ front rest → b ≡ 115
    → HasFault e (read_step rest place) → HasFault e (read_run bytes at)
run_fault bytes at most round rest place b e running more byte begins fault =
    next_fault {B = Unit {0}} e (lines_from 115 read_step (length bytes) [] bytes at) behind_steps
    (lines_fault 115 read_step (lines_from 115 read_step (length bytes) [] bytes at) most round rest place running.steps b e running.are more byte begins fault)

-- all steps are read, and `end` is to follow
pub run_end : (bytes : List ℕ) (at most : ℕ) (rest : List ℕ) (place b : ℕ) → Running bytes at most rest place → b ≡ front rest → b ≢ 115 → read_run bytes at ≡ read_fixed (codes "end\n") rest place
run_end bytes at most rest place b running byte other =
    ap (λ o. next o behind_steps) (lines_end 115 read_step (lines_from 115 read_step (length bytes) [] bytes at) most rest place running.steps b running.are byte other)

pub run_over : (bytes : List ℕ) (at most round : ℕ) (rest : List ℕ) (place b : ℕ) → Running bytes at (most - round) rest place → most ≤ round → b ≡ front rest → b ≡ 115 → read_run bytes at ≡ Faulty place terms.Count
run_over bytes at most round rest place b running past byte begins =
    ap (λ o. next o behind_steps) (lines_over 115 read_step (lines_from 115 read_step (length bytes) [] bytes at) most round rest place running.steps b running.are past byte begins)
