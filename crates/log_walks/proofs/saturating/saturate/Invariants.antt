use Rattle.std.proofs.Common.{false, map}
use Rattle.clause_form.specs.Seen.{clause_at}
use Rattle.log_walks.proofs.saturating.saturate.Given as goal

abbrev pub ghost-run : goal.ghost-run
ghost-run g a = record { given = map (clause_at (g.B.Bank.trees a.bank.now)) a.given.now; budget = a.walk.now.budget; asked = false }
