use Rattle.std.proofs.Common.{arith}
use Rattle.term_tree.specs.Bank.{symbol_of}
use Rattle.clause_form.proofs.Walks.{argument_at}
use Rattle.multiset_subsume.proofs.linking.+meet_variables.Goals as goal

pub meet_variables-requires : goal.meet_variables-requires
meet_variables-requires g t c κs within =
    let at = argument_at (g.B.Bank.trees c.args.bank.now) c.args.term (symbol_of c.in-App.field-0) c.in-App.arguments.now c.each.argument-index record { index = 0 } c.in-App.ensures.0 c.in-App.ensures.1 c.each-test.true in
    (omega (arith, c.decreases, at.1), (within, at.0))
