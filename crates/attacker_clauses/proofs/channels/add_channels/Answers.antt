use Rattle.std.proofs.Common.{[], ◌∷◌}
use Rattle.spec_translation.specs.Attacker.{message_heard, message_sent}
use Rattle.term_tree.proofs.BankLaws.{Grows_trans}
use Rattle.attacker_clauses.proofs.Adding.{added_later, added_after}
use Rattle.attacker_clauses.proofs.channels.add_channels.Goals as goal

pub returns-clause-adds : goal.returns-clause-adds
returns-clause-adds g c =
    let old = g.B.Bank.trees c.args.bank.now in
    let named = g.B.Bank.trees c.var-2.new.self in
    let heard = g.B.Bank.trees c.add_heard.new.bank in
    let sent = g.B.Bank.trees c.add_sent.new.bank in
    added_after old heard sent c.args.list.now c.add_heard.new.list c.add_sent.new.list (message_heard c.args.at.phase ∷ []) (message_sent c.args.at.phase ∷ []) c.add_sent.result
    (added_later old named heard c.args.list.now c.add_heard.new.list (message_heard c.args.at.phase ∷ []) (Grows_trans old (g.B.Bank.trees c.var.new.self) named c.var.ensures.grows c.var-2.ensures.grows) c.in_ok-add_heard.ensures.adds) c.add_sent.ensures.adds

pub returns-in_err-message-clause-grows : goal.returns-in_err-message-clause-grows
returns-in_err-message-clause-grows g c = Grows_trans (g.B.Bank.trees c.args.bank.now) (g.B.Bank.trees c.var.new.self) (g.B.Bank.trees c.var-2.new.self) c.var.ensures.grows c.var-2.ensures.grows

pub returns-in_err-add_heard-clause-grows : goal.returns-in_err-add_heard-clause-grows
returns-in_err-add_heard-clause-grows g c = Grows_trans (g.B.Bank.trees c.args.bank.now) (g.B.Bank.trees c.var-2.new.self) (g.B.Bank.trees c.add_heard.new.bank) (Grows_trans (g.B.Bank.trees c.args.bank.now) (g.B.Bank.trees c.var.new.self) (g.B.Bank.trees c.var-2.new.self) c.var.ensures.grows c.var-2.ensures.grows) c.add_heard.ensures.grows

pub returns-clause-grows : goal.returns-clause-grows
returns-clause-grows g c = Grows_trans (g.B.Bank.trees c.args.bank.now) (g.B.Bank.trees c.add_heard.new.bank) (g.B.Bank.trees c.add_sent.new.bank) (Grows_trans (g.B.Bank.trees c.args.bank.now) (g.B.Bank.trees c.var-2.new.self) (g.B.Bank.trees c.add_heard.new.bank) (Grows_trans (g.B.Bank.trees c.args.bank.now) (g.B.Bank.trees c.var.new.self) (g.B.Bank.trees c.var-2.new.self) c.var.ensures.grows c.var-2.ensures.grows) c.add_heard.ensures.grows) c.add_sent.ensures.grows
