-- What the text of a run and its replay have to do with the outcome.
use Rattle.std.specs.Prelude.{◌≡◌, ℕ, ◌<◌, ◌≤◌, List, length}
use Rattle.spec_calculus.specs.Bounds.{most_run_bytes}
use Rattle.spec_calculus.specs.Syntax.{Protocol}
use Rattle.spec_calculus.specs.Runs.{Step}
use Rattle.spec_protocol_scope.specs.Spells as spells
use Rattle.spec_protocol_scope.specs.Spells.{Spells, Refuses}
use Rattle.spec_run_text.specs.Text.{SpellsRun, IsRefused}
use Rattle.run_replay.specs.Replay.{IsDone, IsFirstRefused, AreFirstViolations}
use Rattle.call_outcomes.specs.Outcome as own
use Rattle.call_outcomes.specs.Outcome.{RunRefusal, Faulty, LongRun, Replay, Done, Stuck, Outcome, Replayed, Refused, Run, Memory, Becomes}
use Rattle.verifier_cli.specs.Command.{IsRefusalOf, refusal_at}

-- the bytes, which are not too many, spell the steps of a run
abbrev pub SpellsSteps : List ℕ → List Step → Type 0
SpellsSteps bytes steps = (length bytes ≤ most_run_bytes) × SpellsRun bytes steps

-- they are refused so as the text of a run, and at that line, from 1: too many before all else, at the first
abbrev pub RefusesRun : List ℕ → RunRefusal → ℕ → Type 0
RefusesRun bytes LongRun line = (most_run_bytes < length bytes) × (line ≡ 1)
RefusesRun bytes (Faulty fault) line = (length bytes ≤ most_run_bytes) × IsRefused bytes fault line

-- it is what replaying the steps shows
abbrev pub IsShown : Protocol → List Step → Replay → Type 0
IsShown P steps (Done end count firsts) =
    IsDone P steps end × AreFirstViolations P steps P.queries firsts × (count ≡ length steps)
IsShown P steps (Stuck number refusal) = IsFirstRefused P steps number refusal

-- the outcome is what replaying the steps shows, or want of memory in its place
abbrev pub IsOutcomeOfReplay : Protocol → List Step → Outcome → Type 0
IsOutcomeOfReplay P steps (Replayed replay) = IsShown P steps replay
IsOutcomeOfReplay P steps Memory = Unit {0}
IsOutcomeOfReplay P steps _ = ⊥

-- the outcome is what the steps that the text of a run spells show, or why it is refused and where, or want of memory
abbrev pub IsOutcomeOfRun : Protocol → List ℕ → Outcome → Type 0
IsOutcomeOfRun P bytes (Replayed replay) = (steps : List Step) × SpellsSteps bytes steps × IsShown P steps replay
IsOutcomeOfRun P bytes (Refused (Run line why)) = RefusesRun bytes why line
IsOutcomeOfRun P bytes Memory = Unit {0}
IsOutcomeOfRun P bytes _ = ⊥

-- what the text of a run comes to, for this protocol
pub record RunsOn (P : Protocol) (bytes : List ℕ) (outcome : Outcome) : Type 0 where
  -- the outcome is a replay or a refusal, each with its cause, or want of memory, and nothing else
  pub answers : IsOutcomeOfRun P bytes outcome
  -- steps that are spelled are replayed
  pub accepts : (steps : List Step) → SpellsSteps bytes steps → IsOutcomeOfReplay P steps outcome
  -- and a text that is refused gets this refusal, at this line
  pub refuses : (why : RunRefusal) (line : ℕ) → RefusesRun bytes why line → Becomes (Refused (Run line why)) outcome

-- what `replay` may come to where the protocol's file has these bytes
abbrev pub IsReplayOutcome : List ℕ → Outcome → Type 0
IsReplayOutcome bytes (Refused (own.Protocol line column why)) = IsRefusalOf bytes (own.Protocol line column why)
IsReplayOutcome bytes (Refused (Run line why)) = (P : Protocol) × Spells bytes P
IsReplayOutcome bytes (Replayed replay) = (P : Protocol) × Spells bytes P
IsReplayOutcome bytes Memory = Unit {0}
IsReplayOutcome bytes _ = ⊥

-- what `replay` comes to where the protocol's file has these bytes, and the run's file this text
pub record Replays (bytes text : List ℕ) (outcome : Outcome) : Type 0 where
  -- the outcome is a refusal or a replay, or want of memory, and nothing else
  pub answers : IsReplayOutcome bytes outcome
  -- where the bytes spell a protocol, the outcome is about the run
  pub accepts : (P : Protocol) → Spells bytes P → RunsOn P text outcome
  -- and where they are refused, it is this refusal, at this place
  pub refuses : (why : spells.Refusal) (place : ℕ) → Refuses bytes why place → Becomes (Refused (refusal_at bytes why place)) outcome
