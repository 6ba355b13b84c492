use Rattle.std.proofs.Common.{◌∙◌, [], ◌∷◌, ◌++◌, ap}
use Rattle.clause_instances.proofs.Closes.{one_added, one_known}
use Rattle.clause_instances.proofs.closing.Closing.add_one.Goals as goal

pub returns-clause-known : goal.returns-clause-known
returns-clause-known g c =
    one_known (g.B.Bank.trees c.args.bank.now) (g.B.Bank.trees c.closed.new.bank) c.args.made.now c.push.new.self.items c.in_ok-id.id c.requires.known c.closed.ensures.grows c.in_ok-id.ensures.known (c.in_ok-push.ensures.items ∙ ap (λ l. l ++ c.in_ok-id.id ∷ []) c.made.view_is)

pub returns-clause-adds : goal.returns-clause-adds
returns-clause-adds g c = λ s closes.
    one_added (g.B.Bank.trees c.args.bank.now) (g.B.Bank.trees c.closed.new.bank) s _ c.args.made.now c.push.new.self.items c.in_ok-id.id c.is_small.result c.requires.known c.closed.ensures.grows (c.in_ok-id.ensures.is s closes) (c.in_ok-push.ensures.items ∙ ap (λ l. l ++ c.in_ok-id.id ∷ []) c.made.view_is) c.is_small.ensures
