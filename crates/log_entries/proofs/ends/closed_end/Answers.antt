use Rattle.std.proofs.Common.{sym}
use Rattle.log_entries.proofs.EndTerms.{end_known}
use Rattle.log_entries.proofs.ends.closed_end.Goals as goal

pub is_ground-requires : goal.is_ground-requires
is_ground-requires g c = end_known (g.B.Bank.trees c.args.bank.now) c.args.clause.now.conclusion c.in-Some.id c.requires.conclusion (sym c.in-Some.ensures)
