use Rattle.std.proofs.Common.{sym, ◌∙◌}
use Rattle.clause_terms.proofs.Standings.{bound_named, unbound}
use Rattle.term_tree.proofs.BankLaws.{Grows_refl}
use Rattle.clause_terms.proofs.in_scope.bound_term.Goals as goal

pub returns-in-Some-clause-names : goal.returns-in-Some-clause-names
returns-in-Some-clause-names g c = bound_named (g.B.Bank.trees c.args.bank.now) c.args.scope.now c.args.slot c.in-Some.id c.requires (sym c.find.ensures ∙ c.in-Some.is)

pub returns-in-None-clause-names : goal.returns-in-None-clause-names
returns-in-None-clause-names g c = let free = unbound (g.B.Bank.trees c.args.bank.now) c.args.scope.now c.args.slot (sym c.find.ensures ∙ c.in-None.is) in rw free c.app.ensures.names

pub returns-in-Some-clause-grows : goal.returns-in-Some-clause-grows
returns-in-Some-clause-grows g c = Grows_refl (g.B.Bank.trees c.args.bank.now)
