use Rattle.term_tree.specs.Bank.{tree_at}
use Rattle.clause_form.proofs.Comparing.{told_same}
use Rattle.clause_form.proofs.same.is_same_term.Goals as goal

pub returns : goal.returns
returns g c = let all = g.B.Bank.trees c.args.bank.now in told_same c.same.result (tree_at all c.args.left) (tree_at all c.args.right) c.same.ensures
