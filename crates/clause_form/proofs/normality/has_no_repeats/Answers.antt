use Rattle.std.proofs.Common.{rules}
use Rattle.clause_form.specs.Seen.{clause_at}
use Rattle.clause_form.proofs.Told.{repeats_are}
use Rattle.clause_form.proofs.normality.has_no_repeats.Goals as goal

pub returns-then-len-ge-MARKED : goal.returns-then-len-ge-MARKED
returns-then-len-ge-MARKED g c = repeats_are (clause_at (g.B.Bank.trees c.args.bank.now) c.args.clause.now) c.are_many_different.result (search rules)

pub returns : goal.returns
returns g c = repeats_are (clause_at (g.B.Bank.trees c.args.bank.now) c.args.clause.now) c.are_different.result (search rules)
