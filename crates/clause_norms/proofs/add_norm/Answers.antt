use Rattle.std.proofs.Common.{◌∙◌, ◌++◌, ◌∷◌, [], ap}
use Rattle.clause_form.specs.Seen.{clause_at}
use Rattle.clause_norms.proofs.Norms.{nothing_added, one_added, AreLowWithinLimit-grow, one_added_low}
use Rattle.clause_norms.proofs.add_norm.Goals as goal

pub returns-in-Tautology-clause-names : goal.returns-in-Tautology-clause-names
returns-in-Tautology-clause-names g c =
    nothing_added (g.B.Bank.trees c.args.bank.now) (g.B.Bank.trees c.norm.new.bank) c.args.made.now (clause_at (g.B.Bank.trees c.args.bank.now) c.args.part) c.in_ok-norm.field-0 c.norm.ensures.grows c.in-Tautology.is c.in_ok-norm.ensures.names

pub returns-in_ok-push-in-Clause-clause-names : goal.returns-in_ok-push-in-Clause-clause-names
returns-in_ok-push-in-Clause-clause-names g c =
    one_added (g.B.Bank.trees c.args.bank.now) (g.B.Bank.trees c.norm.new.bank) c.args.made.now c.push.new.self.items (clause_at (g.B.Bank.trees c.args.bank.now) c.args.part) c.in_ok-norm.field-0 c.in-Clause.clause c.norm.ensures.grows c.in-Clause.is c.in_ok-norm.ensures.names
    (c.in_ok-push-in-Clause.ensures.items ∙ ap (λ l. l ++ c.in-Clause.clause ∷ []) c.made.view_is)

pub returns-in-Tautology-clause-low : goal.returns-in-Tautology-clause-low
returns-in-Tautology-clause-low g c = AreLowWithinLimit-grow (g.B.Bank.trees c.args.bank.now) (g.B.Bank.trees c.norm.new.bank) c.args.made.now c.norm.ensures.grows

pub returns-in_ok-push-in-Clause-clause-low : goal.returns-in_ok-push-in-Clause-clause-low
returns-in_ok-push-in-Clause-clause-low g c =
    one_added_low (g.B.Bank.trees c.args.bank.now) (g.B.Bank.trees c.norm.new.bank) c.args.made.now c.push.new.self.items c.in_ok-norm.field-0 c.in-Clause.clause c.norm.ensures.grows c.in-Clause.is c.in_ok-norm.ensures.low
    (c.in_ok-push-in-Clause.ensures.items ∙ ap (λ l. l ++ c.in-Clause.clause ∷ []) c.made.view_is)
