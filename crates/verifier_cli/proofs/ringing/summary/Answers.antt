-- The law of the ring's translation tells how many clauses there are.
use Rattle.std.proofs.Common.{length, ap, refl, arith}
use Rattle.pi_tree.specs.Protocols.{protocol_of}
use Rattle.verifier_cli.proofs.Rings.{only_there, summary_said}
use Rattle.verifier_cli.proofs.ringing.summary.Goals as goal

pub first_verdict-requires-clause-there : goal.first_verdict-requires-clause-there
first_verdict-requires-clause-there c = only_there (protocol_of c.args.protocol.now) c.args.stages c.requires.ring

pub returns : goal.returns
returns c =
    summary_said (protocol_of c.args.protocol.now) c.args.stages _ c.requires.ring (c.ring_translations.ensures c.args.stages c.requires.least (omega (arith, c.requires.most))) refl (ap length c.requires.text) refl c.in_ok-verdict.ensures
