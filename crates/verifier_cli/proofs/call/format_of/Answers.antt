use Rattle.std.proofs.Common.{subst}
use Rattle.command_words.specs.Request.{request_seen}
use Rattle.verifier_cli.specs.Command.{IsAskable}
use Rattle.verifier_cli.proofs.World.{one_or_two}
use Rattle.verifier_cli.proofs.call.format_of.Goals as goal

pub returns-in-Verify-clause-known : goal.returns-in-Verify-clause-known
returns-in-Verify-clause-known c =
    let within = subst (λ r. IsAskable (request_seen r)) c.in-Verify.is c.requires in
    one_or_two c.in-Verify.format within.1.0 within.1.1
