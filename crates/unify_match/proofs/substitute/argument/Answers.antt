use Rattle.std.proofs.Common.{◌∙◌, ◌<◌, ap, sym, subst, arith, length}
use Rattle.std.proofs.lemmas.Grind.{common_steps}
use Rattle.term_tree.specs.Bank.{tree_at, symbol_of}
use Rattle.term_tree.specs.declared.bank.Id.{Id}
use Rattle.unify_match.proofs.Substituting.{length-arguments, argument-at, known-argument}
use Rattle.unify_match.proofs.substitute.argument.Goals as goal

pub id_at-requires : goal.id_at-requires
id_at-requires g c =
    let all = g.B.Bank.trees c.args.bank.now in
    let count = length-arguments all (tree_at all c.args.id) (symbol_of c.in-App.field-0) c.in-App.args.now c.in-App.ensures.0 in
    omega (arith, count, c.requires.there)

pub returns-in-App-clause-known : goal.returns-in-App-clause-known
returns-in-App-clause-known g c =
    let all = g.B.Bank.trees c.args.bank.now in
    let count = length-arguments all (tree_at all c.args.id) (symbol_of c.in-App.field-0) c.in-App.args.now c.in-App.ensures.0 in
    subst (λ (i : Id). i.index < length all) (sym c.id_at.ensures)
    (known-argument all c.in-App.args.now c.args.place record { index = 0 } c.in-App.ensures.1 (omega (arith, count, c.requires.there)))

pub returns-in-App-clause-is : goal.returns-in-App-clause-is
returns-in-App-clause-is g c =
    let all = g.B.Bank.trees c.args.bank.now in
    let count = length-arguments all (tree_at all c.args.id) (symbol_of c.in-App.field-0) c.in-App.args.now c.in-App.ensures.0 in
    ap (tree_at all) c.id_at.ensures
    ∙ argument-at all (tree_at all c.args.id) (symbol_of c.in-App.field-0) c.in-App.args.now c.args.place record { index = 0 } c.in-App.ensures.0 (omega (arith, count, c.requires.there))

pub returns-in-Var-clause-is : goal.returns-in-Var-clause-is
returns-in-Var-clause-is g c = grind (arith, common_steps)
