-- The status that a call ends with, by what it comes to.
use Rattle.std.specs.Prelude.{◌≡◌, ℕ}
use Rattle.hx.specs.declared.outcome.Refusal.{Refusal}
use Rattle.hx.specs.declared.outcome.Refusal.TheVariants as refused
use Rattle.hx.specs.declared.outcome.Outcome.{Outcome}
use Rattle.hx.specs.declared.outcome.Outcome.TheVariants as ends

-- 3 of a protocol that is refused, 4 of a report or a run
abbrev pub refused_status : Refusal → ℕ
refused_status (refused.Protocol line column code) = 3
refused_status (refused.Report line code) = 4
refused_status (refused.Run line code) = 4

abbrev pub HasStatus : Outcome → ℕ → Type 0
HasStatus ends.Shown status = status ≡ 0
HasStatus ends.NotFound status = status ≡ 1
HasStatus ends.Warned status = status ≡ 1
HasStatus (ends.NoQuery number) status = status ≡ 1
HasStatus (ends.Stuck number error) status = status ≡ 1
HasStatus ends.LongRun status = status ≡ 1
HasStatus ends.Usage status = status ≡ 2
HasStatus (ends.Refused refusal) status = status ≡ refused_status refusal
HasStatus ends.ReadFault status = status ≡ 5
HasStatus ends.Memory status = status ≡ 7
