use Rattle.std.proofs.Common.{◌∙◌, flat_map, take, ap, arith}
use Rattle.term_tree.specs.Bank.{symbol_of}
use Rattle.clause_form.specs.Keys.{mixed, keyed}
use Rattle.clause_form.proofs.Walks.{argument_at}
use Rattle.clause_form.proofs.Keying.{numbers_at, node_key, keyed_more}
use Rattle.clause_form.proofs.keys.+key_of_term.Goals as goal

pub key_of_term-found-requires : goal.key_of_term-found-requires
key_of_term-found-requires g t c κs within =
    let at = argument_at (g.B.Bank.trees c.args.bank.now) c.args.id (symbol_of c.in-App.symbol) c.in-App.arguments.now c.each.argument-index record { index = 0 } c.in-App.ensures.0 c.in-App.ensures.1 c.each-test.true in
    (omega (arith, c.decreases, at.1), (within, at.0))

pub each-preserved : goal.each-preserved
each-preserved g t c =
    keyed_more (numbers_at (g.B.Bank.trees c.args.bank.now)) c.in-App.arguments.now c.each.argument-index record { index = 0 } c.mixed-found.result c.each.found c.key_of_term-found.result c.each-test.true c.each.invariant c.key_of_term-found.ensures

pub returns-after-each : goal.returns-after-each
returns-after-each g t c =
    let all = g.B.Bank.trees c.args.bank.now in
    node_key all c.args.id (symbol_of c.in-App.symbol) c.in-App.arguments.now c.each.argument-index c.args.key c.each.found c.in-App.ensures.0 c.each-test.false
    (c.each.invariant ∙ ap (λ k. keyed k (flat_map (numbers_at all) (take c.each.argument-index c.in-App.arguments.now))) (c.mixed-found.ensures ∙ ap (mixed c.args.key) c.symbol_number.ensures))
