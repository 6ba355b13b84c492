use Rattle.std.proofs.Common.{◌∙◌, ◌++◌, ap, sym, arith}
use Rattle.std.proofs.lemmas.Grind.{common_steps}
use Rattle.term_tree.specs.Bank.{symbol_of}
use Rattle.clause_diffs.proofs.Walks.{argument_at}
use Rattle.clause_diffs.proofs.Lists.{flat_map_all}
use Rattle.clause_diffs.proofs.Counting.{leaves_at, node_leaves}
use Rattle.clause_diffs.proofs.variables.+add_variables.Goals as goal

pub add_variables-requires : goal.add_variables-requires
add_variables-requires g t c κs within =
    let at = argument_at (g.B.Bank.trees c.args.bank.now) c.args.id (symbol_of c.in-App.field-0) c.in-App.arguments.now c.each.argument-index record { index = 0 } c.in-App.ensures.0 c.in-App.ensures.1 c.each-test.true in
    (omega (arith, c.decreases, at.1), (within, at.0))

pub returns-after-each : goal.returns-after-each
returns-after-each g t c =
    let all = g.B.Bank.trees c.args.bank.now in
    c.each.invariant
    ∙ ap (λ l. c.args.numbers.now.items ++ l) (flat_map_all (leaves_at all) c.in-App.arguments.now c.each.argument-index c.each-test.false
    ∙ sym (node_leaves all c.args.id (symbol_of c.in-App.field-0) c.in-App.arguments.now c.in-App.ensures.0))

pub each-preserved : goal.each-preserved
each-preserved g t c = grind (arith, common_steps)
