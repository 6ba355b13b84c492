-- That a request whose files are accepted comes to an outcome of its own command.
use Rattle.std.specs.Prelude.{◌≡◌, ◌⊎◌, ℕ, List}
use Rattle.spec_calculus.specs.Syntax.{Protocol}
use Rattle.spec_calculus.specs.Runs.{Step}
use Rattle.spec_protocol_scope.specs.Spells.{Spells}
use Rattle.spec_certificate_text.specs.Reports.{Claim}
use Rattle.command_words.specs.Request.{Request, Verify, Check, ListOf, Replay, RingOf}
use Rattle.call_outcomes.specs.Outcome.{Outcome, Verified, Checked, Listed, ListLarge, NoQuery, Replayed, Ring, Memory}
use Rattle.verifier_cli.specs.Checking.{MakesClaims}
use Rattle.verifier_cli.specs.Replaying.{SpellsSteps}

-- the bytes of the files that the request names are accepted: the one spells a protocol, and the other, where there is one, a report on
-- it or a run; a ring takes no file
abbrev pub AreAccepted : Request → List ℕ → List ℕ → Type 0
AreAccepted (Verify file budget format) bytes other = (P : Protocol) × Spells bytes P
AreAccepted (Check file report) bytes other = (P : Protocol) × Spells bytes P × ((claims : List Claim) × MakesClaims P other claims)
AreAccepted (ListOf file query) bytes other = (P : Protocol) × Spells bytes P
AreAccepted (Replay file run) bytes other = (P : Protocol) × Spells bytes P × ((steps : List Step) × SpellsSteps other steps)
AreAccepted (RingOf stages) bytes other = Unit {0}

-- the outcome is one of the request's own command, or want of memory
abbrev pub IsOwnOutcome : Request → Outcome → Type 0
IsOwnOutcome (Verify file budget format) (Verified verdicts) = Unit {0}
IsOwnOutcome (Check file report) (Checked findings) = Unit {0}
IsOwnOutcome (ListOf file query) (Listed clauses) = Unit {0}
IsOwnOutcome (ListOf file query) (ListLarge point) = Unit {0}
IsOwnOutcome (ListOf file query) (NoQuery number) = Unit {0}
IsOwnOutcome (Replay file run) (Replayed replay) = Unit {0}
IsOwnOutcome (RingOf stages) (Ring ring) = Unit {0}
IsOwnOutcome request Memory = Unit {0}
IsOwnOutcome request outcome = ⊥

-- the status is that of an answer: 0, 1, or 7 where there was no memory
abbrev pub IsOfAnswer : ℕ → Type 0
IsOfAnswer status = (status ≡ 0) ⊎ ((status ≡ 1) ⊎ (status ≡ 7))
