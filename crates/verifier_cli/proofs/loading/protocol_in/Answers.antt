-- What is not read is what the call comes to.
use Rattle.std.proofs.Common.{sym, subst}
use Rattle.call_outcomes.specs.Outcome.{Outcome}
use Rattle.verifier_cli.specs.Unread.{IsNoReading}
use Rattle.verifier_cli.proofs.Files.{no_reading}
use Rattle.verifier_cli.proofs.loading.protocol_in.Goals as goal

pub returns-in-Err-clause-unread : goal.returns-in-Err-clause-unread
returns-in-Err-clause-unread c =
    subst (λ (outcome : Outcome). IsNoReading c.args.bytes.now outcome) (sym c.unread.ensures) (no_reading c.args.bytes.now _ c.in-Err.ensures.unread)
