use Rattle.std.proofs.Common.{arith}
use Rattle.std.proofs.lemmas.Grind.{common_steps}
use Rattle.cert_writer.proofs.certifying.cert_of.Goals as goal

pub cert_with-requires-clause-known : goal.cert_with-requires-clause-known
cert_with-requires-clause-known g c = c.none_known-none.ensures.known (g.B.Bank.trees c.args.bank.now)

pub cert_with-requires-clause-begin : goal.cert_with-requires-clause-begin
cert_with-requires-clause-begin g c = grind (arith, common_steps)

pub cert_with-requires-clause-begin_given : goal.cert_with-requires-clause-begin_given
cert_with-requires-clause-begin_given g c = grind (arith, common_steps)

pub cert_with-requires-2-clause-begin : goal.cert_with-requires-2-clause-begin
cert_with-requires-2-clause-begin g c = grind (arith, common_steps)

pub cert_with-requires-2-clause-begin_given : goal.cert_with-requires-2-clause-begin_given
cert_with-requires-2-clause-begin_given g c = grind (arith, common_steps)

pub returns-then-not-begin_with_known-clause-known : goal.returns-then-not-begin_with_known-clause-known
returns-then-not-begin_with_known-clause-known g c = grind (arith, common_steps)
