use Rattle.std.proofs.Common.{subst}
use Rattle.pi_tree.specs.Protocols.{protocol_of}
use Rattle.query_verify.specs.declared.settled.Settled.{Settled}
use Rattle.query_verify.specs.declared.settled.Settled.TheVariants.{TooLarge, Spent, Large}
use Rattle.query_verify.specs.Settled.{IsSettled}
use Rattle.query_verify.proofs.Settling.{point_of_all, spent_of_all, pair_of_all}
use Rattle.query_verify.proofs.settled.settled_verdict.Goals as goal

pub returns-in-TooLarge : goal.returns-in-TooLarge
returns-in-TooLarge g c =
    let all = g.B.Bank.trees c.args.bank.now in
    let P = protocol_of c.args.asking.now.protocol.now in
    let budget = c.args.asking.now.budget in
    let settled : IsSettled all P budget (TooLarge c.in-TooLarge.point) = subst (λ (s : Settled). IsSettled all P budget s) c.in-TooLarge.is c.requires in
    point_of_all P budget c.in-TooLarge.point settled

pub returns-in_ok-entry-in-Spent : goal.returns-in_ok-entry-in-Spent
returns-in_ok-entry-in-Spent g c =
    let all = g.B.Bank.trees c.args.bank.now in
    let P = protocol_of c.args.asking.now.protocol.now in
    let budget = c.args.asking.now.budget in
    let settled : IsSettled all P budget (Spent c.in-Spent.log c.in-Spent.due) = subst (λ (s : Settled). IsSettled all P budget s) c.in-Spent.is c.requires in
    spent_of_all P budget all settled.0 c.in-Spent.log c.in-Spent.due c.in_ok-entries-in-Spent.entries c.in_ok-entry-in-Spent.entry (c.translations_have_one_goal.ensures.one P) settled.1 settled.2 c.in_ok-entries-in-Spent.ensures c.in_ok-entry-in-Spent.ensures

pub returns-in_ok-entries-in-Large : goal.returns-in_ok-entries-in-Large
returns-in_ok-entries-in-Large g c =
    let all = g.B.Bank.trees c.args.bank.now in
    let P = protocol_of c.args.asking.now.protocol.now in
    let budget = c.args.asking.now.budget in
    let settled : IsSettled all P budget (Large c.in-Large.log c.in-Large.solved c.in-Large.unsolved) = subst (λ (s : Settled). IsSettled all P budget s) c.in-Large.is c.requires in
    pair_of_all P budget all settled.0 c.in-Large.log c.in-Large.solved c.in-Large.unsolved c.in_ok-entries-in-Large.entries (c.translations_have_one_goal.ensures.one P) settled.1 settled.2 c.in_ok-entries-in-Large.ensures
