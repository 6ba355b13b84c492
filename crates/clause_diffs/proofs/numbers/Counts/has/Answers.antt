use Rattle.std.proofs.Common.{◌∙◌, nat_lt, ap}
use Rattle.clause_diffs.proofs.Tables.{counted_any}
use Rattle.clause_diffs.proofs.numbers.Counts.has.Goals as goal

pub returns : goal.returns
returns c = ap (nat_lt 0) c.count.ensures ∙ counted_any c.args.number c.args.self.now
