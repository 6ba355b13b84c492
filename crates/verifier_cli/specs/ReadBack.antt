-- What `check` comes to on a report that `verify` wrote.
use Rattle.std.specs.Prelude.{◌≤◌, ℕ, List, length, map}
use Rattle.spec_calculus.specs.Bounds.{most_report_bytes}
use Rattle.cert_checker.specs.declared.ruling.Ruling.TheVariants.{Accepted}
use Rattle.query_verify.specs.declared.answers.Verdict.{Verdict}
use Rattle.query_verify.specs.declared.answers.Verdict.TheVariants.{Proved}
use Rattle.call_outcomes.specs.declared.outcome.Finding.{Finding}
use Rattle.call_outcomes.specs.declared.outcome.Finding.TheVariants.{Ruled, NotClaimed}
use Rattle.call_outcomes.specs.Outcome.{Outcome, Verified, Checked, Becomes}
use Rattle.verifier_cli.specs.Checking.{Checks}

-- what is found where a verdict is read back: of a query that is proved that its certificate is accepted, of another that nothing
-- is claimed
abbrev pub finding_of : Verdict → Finding
finding_of (Proved certificate) = Ruled Accepted
finding_of _ = NotClaimed

-- where the outcome is verdicts, and this text of theirs is no longer than a report may be, `check` of the protocol's file with these
-- bytes and of a file that holds the text comes to their findings, one for each in order, or to want of memory
abbrev pub IsReadBack : List ℕ → List ℕ → Outcome → Type 0
IsReadBack bytes text (Verified verdicts) =
    length text ≤ most_report_bytes → (answer : Outcome) → Checks bytes text answer → Becomes (Checked (map finding_of verdicts)) answer
IsReadBack bytes text _ = Unit {0}
