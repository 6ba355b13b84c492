use Rattle.pi_tree.specs.Patterns.{pattern_of}
use Rattle.clause_terms.specs.Fresh.{fresh_of}
use Rattle.clause_terms.proofs.Binding.{bound_alone}
use Rattle.clause_terms.proofs.bound.scope_grown.Goals as goal

pub returns-clause-names : goal.returns-clause-names
returns-clause-names g c =
    bound_alone (fresh_of c.args.at) (g.B.Bank.trees c.args.bank.now) (g.B.Bank.trees c.add_bound.new.bank) c.new-scope.result c.add_bound.new.scope (pattern_of c.args.pattern.now) c.new-scope.ensures c.in_ok-add_bound.ensures.names
