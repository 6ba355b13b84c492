use Rattle.std.proofs.Common.{List, sym, subst}
use Rattle.term_tree.specs.declared.bank.Id.{Id}
use Rattle.term_tree.specs.Bank.{AreKnown}
use Rattle.log_text.proofs.stops.put_instance.Goals as goal

pub put_place-requires-clause-messages : goal.put_place-requires-clause-messages
put_place-requires-clause-messages c = subst (λ (ids : List Id). AreKnown c.args.stopped.now.bank.now ids) (sym c.in-Some.ensures) c.requires.one.messages
