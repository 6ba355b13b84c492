use Rattle.term_tree.specs.Bank.{tree_at, symbol_of}
use Rattle.unify_match.proofs.Substituting.{length-arguments}
use Rattle.unify_match.proofs.substitute.arity.Goals as goal

pub returns-in-App : goal.returns-in-App
returns-in-App g c =
    let all = g.B.Bank.trees c.args.bank.now in
    length-arguments all (tree_at all c.args.id) (symbol_of c.in-App.field-0) c.in-App.args.now c.in-App.ensures.0
