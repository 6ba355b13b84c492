use Rattle.term_tree.specs.Bank.{tree_at, symbol_of}
use Rattle.unify_match.proofs.Substituting.{symbol-at}
use Rattle.unify_match.proofs.substitute.symbol.Goals as goal

pub returns-in-App : goal.returns-in-App
returns-in-App g c =
    let all = g.B.Bank.trees c.args.bank.now in
    symbol-at all (tree_at all c.args.id) (symbol_of c.in-App.symbol) c.in-App.field-1.now c.in-App.ensures.0
