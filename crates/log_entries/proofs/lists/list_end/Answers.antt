use Rattle.log_entries.proofs.EndTerms.{end_below}
use Rattle.log_entries.proofs.lists.list_end.Goals as goal

pub push-requires : goal.push-requires
push-requires g c = end_below (g.B.Bank.trees c.args.bank.now) c.args.offer.now.clause.now c.end_of.result c.mark.result.len c.requires c.end_of.ensures c.mark.ensures
