use Rattle.std.proofs.Common.{List, sym, subst}
use Rattle.term_tree.specs.declared.bank.Id.{Id}
use Rattle.term_tree.specs.Bank.{AreKnown}
use Rattle.log_text.proofs.stops.put_before.Goals as goal

pub put_deed-requires : goal.put_deed-requires
put_deed-requires c = subst (λ (ids : List Id). AreKnown c.args.stopped.now.bank.now ids) (sym c.in-Some.ensures) c.requires.messages
