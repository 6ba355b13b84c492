use Rattle.clause_terms.specs.Fresh.{fresh_of}
use Rattle.clause_terms.proofs.Binding.{row_alone}
use Rattle.clause_terms.proofs.bound.row_scope.Goals as goal

pub returns-clause-names : goal.returns-clause-names
returns-clause-names g c =
    row_alone (fresh_of c.args.at) (g.B.Bank.trees c.args.bank.now) (g.B.Bank.trees c.add_all_bound.new.bank) c.new-scope.result c.add_all_bound.new.scope c.args.patterns.now c.new-scope.ensures c.in_ok-add_all_bound.ensures.names
