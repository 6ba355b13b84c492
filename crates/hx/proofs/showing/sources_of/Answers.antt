-- Where there is a log, no visit is too large.
use Rattle.std.proofs.Common.{subst}
use Rattle.pi_tree.specs.Protocols.{protocol_of}
use Rattle.log_text.specs.declared.told.Told.{Told}
use Rattle.hx.specs.Logged.{CanBeExplained}
use Rattle.hx.proofs.showing.sources_of.Goals as goal

pub sources-given-requires-clause-small : goal.sources-given-requires-clause-small
sources-given-requires-clause-small c = (subst (λ (told : Told). CanBeExplained (protocol_of c.args.protocol.now) told) c.in-Logged.is c.requires.ready).0
