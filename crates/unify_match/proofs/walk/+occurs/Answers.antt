use Rattle.std.proofs.Common.{◌∙◌, sym, refl, arith, length, eqb-true}
use Rattle.std.proofs.lemmas.Grind.{common_steps}
use Rattle.spec_terms.specs.Rank.{ranks}
use Rattle.term_tree.specs.Bank.{symbol_of}
use Rattle.term_tree.proofs.BankLaws.{known-at}
use Rattle.unify_match.specs.Seen.{seen}
use Rattle.unify_match.proofs.Walking.{walked-has, args-lower, height-at, has-variable, has-found, has-none, AreClear-pass}
use Rattle.unify_match.proofs.walk.+occurs.Goals as goal

pub returns-then-has-clause-found : goal.returns-then-has-clause-found
returns-then-has-clause-found g t c = sym (sym (walked-has (g.B.Bank.trees c.args.bank.now) c.args.binds.now.pairs c.args.id c.walk-end.result c.args.number c.requires.ready c.walk-end.ensures) ∙ c.requires.clear c.walk-end.result.index (c.has.ensures c.if-has.true))

pub args-2-init : goal.args-2-init
args-2-init g t c = record {
  clear = c.requires.clear;
  known = c.in-App.ensures.1;
  rest = refl;
  lower = args-lower (ranks (seen (g.B.Bank.trees c.args.bank.now) c.args.binds.now.pairs)) (g.B.Bank.trees c.args.bank.now) c.walk-end.result (symbol_of c.in-App.field-0) c.in-App.args.now c.in-App.ensures.0;
}

pub occurs-requires : goal.occurs-requires
occurs-requires g t c κs within =
    let all = g.B.Bank.trees c.args.bank.now in
    let at = height-at (ranks (seen all c.args.binds.now.pairs)) all c.in-App.args.now c.args-2.arg-index record { index = 0 } c.args-2-test.true in
    let known = known-at all c.in-App.args.now c.args-2.arg-index record { index = 0 } c.args-2-test.true c.args-2.invariant.known in
    (omega (arith, c.decreases, c.args-2.invariant.lower, c.walk-end.ensures.lower, at.0), (within, (known.0, (c.requires.ready, c.args-2.invariant.clear))))

pub returns-then-branch-clause-found : goal.returns-then-branch-clause-found
returns-then-branch-clause-found g t c =
    has-found (g.B.Bank.trees c.args.bank.now) c.args.binds.now.pairs c.args.id c.walk-end.result c.args.number (symbol_of c.in-App.field-0) c.in-App.args.now c.args-2.arg-index record { index = 0 }
    c.requires.ready c.walk-end.ensures c.in-App.ensures.0 c.args-2.invariant.rest c.args-2-test.true (sym c.in_ok-occurs-in-App.ensures.found ∙ c.if-branch.true)

pub returns-in-Var-clause-found : goal.returns-in-Var-clause-found
returns-in-Var-clause-found g t c = has-variable (g.B.Bank.trees c.args.bank.now) c.args.binds.now.pairs c.args.id c.walk-end.result c.args.number c.in-Var.found c.requires.ready c.walk-end.ensures c.in-Var.ensures

pub returns-in_ok-pass-in-App-clause-clear : goal.returns-in_ok-pass-in-App-clause-clear
returns-in_ok-pass-in-App-clause-clear g t c =
    AreClear-pass (g.B.Bank.trees c.args.bank.now) c.args.binds.now.pairs c.args.number c.args-2.clear c.pass.new.self c.walk-end.result c.args-2.invariant.clear
    (has-none (g.B.Bank.trees c.args.bank.now) c.args.binds.now.pairs c.walk-end.result c.args.number (symbol_of c.in-App.field-0) c.in-App.args.now c.args-2.arg-index c.in-App.ensures.0 c.args-2.invariant.rest c.args-2-test.false)
    c.pass.ensures

pub returns-in_err-pass-in-App-clause-clear : goal.returns-in_err-pass-in-App-clause-clear
returns-in_err-pass-in-App-clause-clear g t c =
    AreClear-pass (g.B.Bank.trees c.args.bank.now) c.args.binds.now.pairs c.args.number c.args-2.clear c.pass.new.self c.walk-end.result c.args-2.invariant.clear
    (has-none (g.B.Bank.trees c.args.bank.now) c.args.binds.now.pairs c.walk-end.result c.args.number (symbol_of c.in-App.field-0) c.in-App.args.now c.args-2.arg-index c.in-App.ensures.0 c.args-2.invariant.rest c.args-2-test.false)
    c.pass.ensures

pub returns-in_ok-pass-in-App-clause-found : goal.returns-in_ok-pass-in-App-clause-found
returns-in_ok-pass-in-App-clause-found g t c =
    sym (sym (walked-has (g.B.Bank.trees c.args.bank.now) c.args.binds.now.pairs c.args.id c.walk-end.result c.args.number c.requires.ready c.walk-end.ensures)
    ∙ has-none (g.B.Bank.trees c.args.bank.now) c.args.binds.now.pairs c.walk-end.result c.args.number (symbol_of c.in-App.field-0) c.in-App.args.now c.args-2.arg-index c.in-App.ensures.0 c.args-2.invariant.rest c.args-2-test.false)

pub returns-then-is_empty-clause-found : goal.returns-then-is_empty-clause-found
returns-then-is_empty-clause-found g t c =
    sym (sym (walked-has (g.B.Bank.trees c.args.bank.now) c.args.binds.now.pairs c.args.id c.walk-end.result c.args.number c.requires.ready c.walk-end.ensures)
    ∙ has-none (g.B.Bank.trees c.args.bank.now) c.args.binds.now.pairs c.walk-end.result c.args.number (symbol_of c.in-App.field-0) c.in-App.args.now 0 c.in-App.ensures.0 refl (let none = eqb-true (length c.in-App.args.now) 0 (sym c.if-is_empty.ensures) in omega (arith, none)))

pub args-2-preserved : goal.args-2-preserved
args-2-preserved g t c = grind (arith, common_steps)

pub offset_bounds-args-arg-index : goal.offset_bounds-args-arg-index
offset_bounds-args-arg-index g t c = grind (arith, common_steps)
