-- What a request comes to: all that is said of one call is said of one list of bytes of each file that it reads.
use Rattle.std.specs.Prelude.{ℕ, List, Option}
use Rattle.spec_calculus.specs.Syntax as syntax
use Rattle.command_words.specs.Request.{Request, Verify}
use Rattle.protocol_loading.specs.Outside.{Outside, IsFaulty}
use Rattle.call_outcomes.specs.Outcome.{Outcome}
use Rattle.call_outcomes.specs.Text.{HasText, outcome_bytes, status_of}
use Rattle.verifier_cli.specs.Command.{NoneViolated, AttacksViolate}
use Rattle.verifier_cli.specs.ReadBack.{IsReadBack}
use Rattle.verifier_cli.specs.Requests.{ComesTo}
use Rattle.verifier_cli.specs.Complete.{AreAccepted, IsOwnOutcome, IsOfAnswer}

-- the format of the certificates that are printed: that which `verify` is asked for; no other request prints one
abbrev pub format_of : Request → ℕ
format_of (Verify file budget format) = format
format_of _ = 1

-- one world: the bytes of the files, and all that is said of them
pub record World (asked : Request) (files : Outside) (outcome : Outcome) (Writes : List ℕ → Type 0) : Type 0 where
  pub words : Option syntax.Protocol
  pub comes : ComesTo asked files words outcome
  -- no run of the protocol that its bytes spell violates a query that is proved, or whose certificate is accepted
  pub headline : NoneViolated comes.protocol outcome
  -- what is told as an attack on a query is a run of that protocol, a beginning of which violates the query
  pub attacks : AttacksViolate comes.protocol outcome
  -- what is written is the outcome's text, in these words where clauses are printed, and with certificates in the format that was asked for
  pub printed : HasText words outcome
  pub written : Writes (outcome_bytes (format_of asked) words outcome)
  -- what `check` finds in it, where it is the text of verdicts
  pub read_back : IsReadBack comes.protocol (outcome_bytes (format_of asked) words outcome) outcome
  -- where the bytes of its files are accepted and no fault is counted, the request comes to an outcome of its own
  pub complete : AreAccepted asked comes.protocol comes.other → ((name : List ℕ) → IsFaulty files name → ⊥) → IsOwnOutcome asked outcome × IsOfAnswer (status_of outcome)
