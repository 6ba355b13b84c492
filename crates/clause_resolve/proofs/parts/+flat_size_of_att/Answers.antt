use Rattle.std.proofs.Common.{◌∙◌, ap, sym, arith, rules}
use Rattle.spec_clauses.specs.Fact.{total, fact_size}
use Rattle.term_tree.specs.Bank.{symbol_of, capped}
use Rattle.clause_form.proofs.Walks.{argument_at}
use Rattle.clause_form.proofs.Flattening.{parts_at, data_flat}
use Rattle.clause_resolve.proofs.Parting.{sizes_more, sizes_all}
use Rattle.clause_resolve.proofs.parts.+flat_size_of_att.Goals as goal

pub flat_size_of_att-requires : goal.flat_size_of_att-requires
flat_size_of_att-requires g t c κs within =
    let at = argument_at (g.B.Bank.trees c.args.bank.now) c.args.id (symbol_of c.in-App.symbol) c.in-App.arguments.now c.each.argument-index record { index = 0 } c.in-App.ensures.0 c.in-App.ensures.1 c.each-test.true in
    (omega (arith, c.decreases, at.1), (within, at.0))

pub each-preserved : goal.each-preserved
each-preserved g t c =
    let all = g.B.Bank.trees c.args.bank.now in
    sizes_more (parts_at all c.args.phase) c.in-App.arguments.now c.each.argument-index record { index = 0 } c.each.symbols _ _ c.each-test.true c.each.invariant c.flat_size_of_att.ensures c.add_symbols-symbols.ensures

pub returns-after-each : goal.returns-after-each
returns-after-each g t c =
    let all = g.B.Bank.trees c.args.bank.now in
    sizes_all (parts_at all c.args.phase) c.in-App.arguments.now c.each.argument-index c.each.symbols c.each.invariant c.each-test.false
    ∙ ap (λ l. capped (total fact_size l)) (sym (data_flat all c.args.phase c.args.id (symbol_of c.in-App.symbol) c.in-App.arguments.now c.in-App.ensures.0 (search rules)))
