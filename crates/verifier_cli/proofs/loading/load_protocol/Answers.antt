-- A protocol that was loaded is within the limits, and what is not is what the call comes to.
use Rattle.std.proofs.Common.{sym, subst}
use Rattle.protocol_loading.specs.Outside.{outside}
use Rattle.call_outcomes.specs.Outcome.{Outcome}
use Rattle.verifier_cli.specs.Unread.{IsUnread}
use Rattle.verifier_cli.proofs.Files.{no_protocol}
use Rattle.verifier_cli.proofs.Limits.{limited}
use Rattle.verifier_cli.proofs.loading.load_protocol.Goals as goal

pub returns-in-Ok-clause-limited : goal.returns-in-Ok-clause-limited
returns-in-Ok-clause-limited g c = limited _ c.in-Ok.ensures.loaded.limits

pub returns-in-Err-clause-unread : goal.returns-in-Err-clause-unread
returns-in-Err-clause-unread g c =
    let files = outside g.F.Files.held g.F.Files.faults g.F.Files.loads c.args.files.now c.load_protocol.new.files in
    subst (λ (outcome : Outcome). IsUnread files c.args.file.now outcome) (sym c.unread.ensures) (no_protocol files c.args.file.now _ c.in-Err.ensures.unread)
