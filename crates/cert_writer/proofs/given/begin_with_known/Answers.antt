use Rattle.std.proofs.Common.{arith}
use Rattle.std.proofs.lemmas.Grind.{common_steps}
use Rattle.cert_writer.proofs.Telling.{fit_known}
use Rattle.cert_writer.proofs.Small.{small_known}
use Rattle.cert_writer.proofs.given.begin_with_known.Goals as goal

pub begin_with-requires-clause-live : goal.begin_with-requires-clause-live
begin_with-requires-clause-live g c = fit_known (g.B.Bank.trees c.args.bank.now) c.args.writer.now.live.now c.requires.ready.fit

pub begin_with-requires-2-clause-live : goal.begin_with-requires-2-clause-live
begin_with-requires-2-clause-live g c = small_known (g.B.Bank.trees c.args.bank.now) c.args.given.now c.requires.given

pub returns-clause-live : goal.returns-clause-live
returns-clause-live g c = grind (arith, common_steps)

pub returns-clause-given : goal.returns-clause-given
returns-clause-given g c = grind (arith, common_steps)
