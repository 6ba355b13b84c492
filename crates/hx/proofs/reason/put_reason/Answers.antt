-- A log that is told can be explained.
use Rattle.std.proofs.Common.{subst}
use Rattle.pi_tree.specs.Protocols.{protocol_of}
use Rattle.log_text.specs.declared.told.Told.{Told}
use Rattle.hx.specs.Logged.{CanBeExplained}
use Rattle.hx.proofs.reason.put_reason.Goals as goal

pub put_logged-requires-clause-small : goal.put_logged-requires-clause-small
put_logged-requires-clause-small c = (subst (λ (told : Told). CanBeExplained (protocol_of c.args.setting.protocol.now) told) c.in-Logged.is c.requires.ready).0

pub put_logged-requires-clause-ready : goal.put_logged-requires-clause-ready
put_logged-requires-clause-ready c = (subst (λ (told : Told). CanBeExplained (protocol_of c.args.setting.protocol.now) told) c.in-Logged.is c.requires.ready).1
