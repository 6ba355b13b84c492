use Rattle.std.proofs.Common.{◌≡◌, ◌<◌, false, eqb, eqb-true, length, sym, ◌∙◌, refl, arith}
use Rattle.std.proofs.lemmas.Bool.Decides.{nat_tests}
use Rattle.spec_fingerprints.specs.Fingerprints.{Anything, Symbol}
use Rattle.term_tree.specs.Bank.{symbol_of}
use Rattle.clause_form.proofs.Walks.{known_at}
use Rattle.fact_fingerprint.proofs.Below.{range_by, at_variable, at_symbol, below_symbol}
use Rattle.fact_fingerprint.proofs.ranges.+range_among.Goals as goal

pub node-requires : goal.node-requires
node-requires g t c = known_at (g.B.Bank.trees c.args.bank.now) c.args.terms.now c.in-Some.first.now record { index = 0 } c.requires (omega arith)

pub returns-then-is_empty : goal.returns-then-is_empty
returns-then-is_empty g t c =
    let none : length c.in-Some.rest.now ≡ 0 = eqb-true (length c.in-Some.rest.now) 0 (sym c.is_empty.ensures ∙ c.if-is_empty.true) in
    range_by _ (Symbol (symbol_of c.in-App.symbol)) c.range_of_symbol.result
    (at_symbol (g.B.Bank.trees c.args.bank.now) c.args.terms.now c.in-App.arguments.now c.args.way.now c.in-Some.rest.now c.in-Some.first.now record { index = 0 } (symbol_of c.in-App.symbol) c.in-Some.ensures.cases.0 (omega arith) c.in-App.ensures.0 none)
    record { least = c.range_of_symbol.ensures.least; most = c.range_of_symbol.ensures.most }

pub returns-in-Var : goal.returns-in-Var
returns-in-Var g t c =
    range_by _ Anything _
    (at_variable (g.B.Bank.trees c.args.bank.now) c.args.terms.now c.args.way.now c.in-Some.rest.now c.in-Some.first.now c.in-Var.field-0 record { index = 0 } c.in-Some.ensures.cases.0 (omega arith) c.in-Var.ensures)
    record { least = refl; most = refl }

pub returns-else-is_empty : goal.returns-else-is_empty
returns-else-is_empty g t c =
    let more : eqb (length c.in-Some.rest.now) 0 ≡ false = sym c.is_empty.ensures ∙ c.if-is_empty.false in
    let some : 0 < length c.in-Some.rest.now = grind (arith, nat_tests) in
    range_by _ _ c.range_among.result
    (below_symbol (g.B.Bank.trees c.args.bank.now) c.args.terms.now c.in-App.arguments.now c.args.way.now c.in-Some.rest.now c.in-Some.first.now record { index = 0 } (symbol_of c.in-App.symbol) c.in-Some.ensures.cases.0 (omega arith) c.in-App.ensures.0 some)
    c.range_among.ensures
