use Rattle.std.proofs.Common.{arith, rules}
use Rattle.std.proofs.lemmas.Grind.{common_steps}
use Rattle.term_tree.specs.Bank.{symbol_of}
use Rattle.spec_clauses.specs.Fact.{Att}
use Rattle.clause_form.proofs.Walks.{argument_at}
use Rattle.clause_form.proofs.Flattening.{other_flat, variable_flat, known_after, pushed_whole, parts_done}
use Rattle.clause_form.proofs.flat.+add_parts.Goals as goal

pub add_parts-requires : goal.add_parts-requires
add_parts-requires g t c κs within =
    let at = argument_at (g.B.Bank.trees c.args.bank.now) c.args.id (symbol_of c.in-App.symbol) c.in-App.arguments.now c.each.argument-index record { index = 0 } c.in-App.ensures.0 c.in-App.ensures.1 c.each-test.true in
    (omega (arith, c.decreases, at.1), (within, (at.0, c.each.invariant.known)))

pub each-preserved : goal.each-preserved
each-preserved g t c = grind (arith, common_steps)

pub returns-after-each-clause-parts : goal.returns-after-each-clause-parts
returns-after-each-clause-parts g t c =
    parts_done (g.B.Bank.trees c.args.bank.now) c.args.phase c.args.id (symbol_of c.in-App.symbol) c.in-App.arguments.now c.each.argument-index c.args.facts.now c.each.facts c.in-App.ensures.0 (search rules) c.each.invariant.parts c.each-test.false

pub returns-in-Var-clause-known : goal.returns-in-Var-clause-known
returns-in-Var-clause-known g t c = known_after (g.B.Bank.trees c.args.bank.now) c.push.result c.args.facts.now c.push.new.self (Att c.args.phase c.args.id) c.push.ensures.ok c.push.ensures.err c.requires.facts (c.requires.term, tt)

pub returns-in-Var-clause-parts : goal.returns-in-Var-clause-parts
returns-in-Var-clause-parts g t c =
    let all = g.B.Bank.trees c.args.bank.now in
    pushed_whole all c.push.result c.args.phase c.args.id c.args.facts.now c.push.new.self c.push.ensures.ok (variable_flat all c.args.phase c.args.id c.in-Var.field-0 c.in-Var.ensures)

pub returns-then-not-is_data_symbol-clause-known : goal.returns-then-not-is_data_symbol-clause-known
returns-then-not-is_data_symbol-clause-known g t c = known_after (g.B.Bank.trees c.args.bank.now) c.push-then-not-is_data_symbol.result c.args.facts.now c.push-then-not-is_data_symbol.new.self (Att c.args.phase c.args.id) c.push-then-not-is_data_symbol.ensures.ok c.push-then-not-is_data_symbol.ensures.err c.requires.facts (c.requires.term, tt)

pub returns-then-not-is_data_symbol-clause-parts : goal.returns-then-not-is_data_symbol-clause-parts
returns-then-not-is_data_symbol-clause-parts g t c =
    let all = g.B.Bank.trees c.args.bank.now in
    pushed_whole all c.push-then-not-is_data_symbol.result c.args.phase c.args.id c.args.facts.now c.push-then-not-is_data_symbol.new.self c.push-then-not-is_data_symbol.ensures.ok (other_flat all c.args.phase c.args.id (symbol_of c.in-App.symbol) c.in-App.arguments.now c.in-App.ensures.0 (search rules))

pub each-init : goal.each-init
each-init g t c = grind (arith, common_steps)
