use Rattle.std.proofs.Common.{◌≡◌, ◌+◌, true, arith, rules}
use Rattle.spec_terms.specs.Term.{is_ground}
use Rattle.term_tree.specs.Bank.{symbol_of, tree_at}
use Rattle.clause_form.proofs.Walks.{argument_at}
use Rattle.feature_index.proofs.Counting.{symbols_at, node_symbols, symbols_of_ground, told_more, told_all}
use Rattle.feature_index.proofs.counts.+symbols_of_term.Goals as goal

pub symbols_of_term-symbols-requires : goal.symbols_of_term-symbols-requires
symbols_of_term-symbols-requires g t c κs within =
    let at = argument_at (g.B.Bank.trees c.args.bank.now) c.args.id (symbol_of c.in-App.field-0) c.in-App.arguments.now c.each.argument-index record { index = 0 } c.in-App.ensures.0 c.in-App.ensures.1 c.each-test.true in
    (omega (arith, c.decreases, at.1), (within, at.0))

pub each-preserved : goal.each-preserved
each-preserved g t c = told_more (symbols_at (g.B.Bank.trees c.args.bank.now)) c.in-App.arguments.now c.each.argument-index record { index = 0 } (c.args.found + 1) c.each.symbols c.symbols_of_term-symbols.result c.each-test.true c.each.invariant c.symbols_of_term-symbols.ensures

pub returns-after-each : goal.returns-after-each
returns-after-each g t c =
    let all = g.B.Bank.trees c.args.bank.now in
    let is = node_symbols all c.args.id (symbol_of c.in-App.field-0) c.in-App.arguments.now c.in-App.ensures.0 in
    let told_of_all = told_all (symbols_at all) c.in-App.arguments.now c.each.argument-index (c.args.found + 1) c.each.symbols c.each-test.false c.each.invariant in
    omega (arith, is, told_of_all)

pub returns-then-is_ground : goal.returns-then-is_ground
returns-then-is_ground g t c =
    let all = g.B.Bank.trees c.args.bank.now in
    let ground : is_ground (tree_at all c.args.id) ≡ true = search rules in
    let same = symbols_of_ground (tree_at all c.args.id) ground in
    omega (arith, same, c.size-size.ensures, c.saturating_add.ensures, c.if-size-lt-SIZE_LIMIT.true)
