use Rattle.std.proofs.Common.{◌∙◌, [], ◌∷◌, map, ap, sym}
use Rattle.std.specs.List.{cons_option}
use Rattle.spec_trees.specs.Tree.{node}
use Rattle.spec_terms.specs.Term.{Ctor}
use Rattle.spec_translation.specs.Attacker.{variables_from, constructor_applied}
use Rattle.term_tree.specs.Bank.{tree_at}
use Rattle.term_tree.proofs.BankLaws.{Grows_refl, Grows_trans}
use Rattle.pi_tree.specs.Names.{declared_of}
use Rattle.attacker_clauses.proofs.Raws.{known_clause, shown_known, shown_terms, constructor_listed}
use Rattle.attacker_clauses.proofs.Adding.{last_added}
use Rattle.attacker_clauses.proofs.constructors.add_constructor.Goals as goal

pub add_known-requires-clause-terms : goal.add_known-requires-clause-terms
add_known-requires-clause-terms g c =
    shown_known (g.B.Bank.trees c.variables.new.bank) (g.B.Bank.trees c.app.new.self) c.in_ok-arguments.arguments c.arguments.inside.items.items c.deref-2.result.now c.app.ensures.grows c.deref-2.ensures.value c.arguments.view_is c.in_ok-arguments.ensures.names.known

pub returns-clause-adds : goal.returns-clause-adds
returns-clause-adds g c =
    let old = g.B.Bank.trees c.args.bank.now in
    let mid = g.B.Bank.trees c.variables.new.bank in
    let made = g.B.Bank.trees c.app.new.self in
    let vs = variables_from 0 c.args.declared.now.arity in
    let first = shown_terms mid mid c.in_ok-arguments.arguments c.arguments.inside.items.items c.deref.result.now vs (Grows_refl mid) c.deref.ensures.value c.arguments.view_is c.in_ok-arguments.ensures.names in
    let later = shown_terms mid made c.in_ok-arguments.arguments c.arguments.inside.items.items c.deref-2.result.now vs c.app.ensures.grows c.deref-2.ensures.value c.arguments.view_is c.in_ok-arguments.ensures.names in
    let whole = constructor_listed c.args.at.phase c.args.number (declared_of c.args.declared.now) (map (tree_at made) c.deref-2.result.now) (tree_at made c.in_ok-made.made) (sym c.is_applied.ensures ∙ c.if-not-is_applied.false) later (c.in_ok-made.ensures.names.is ∙ ap (node (Ctor c.args.number)) first) in
    last_added old made (g.B.Bank.trees c.add_known.new.bank) c.args.list.now c.add_known.new.list (known_clause c.args.at.phase (map (tree_at made) c.deref-2.result.now) (tree_at made c.in_ok-made.made) ∷ []) (cons_option (constructor_applied c.args.at.phase (c.args.number, declared_of c.args.declared.now)) [])
    c.add_known.result (Grows_trans old mid made c.variables.ensures.grows c.app.ensures.grows) whole c.add_known.ensures.adds

pub returns-in_err-made-clause-grows : goal.returns-in_err-made-clause-grows
returns-in_err-made-clause-grows g c = Grows_trans (g.B.Bank.trees c.args.bank.now) (g.B.Bank.trees c.variables.new.bank) (g.B.Bank.trees c.app.new.self) c.variables.ensures.grows c.app.ensures.grows

pub returns-clause-grows : goal.returns-clause-grows
returns-clause-grows g c = Grows_trans (g.B.Bank.trees c.args.bank.now) (g.B.Bank.trees c.app.new.self) (g.B.Bank.trees c.add_known.new.bank) (Grows_trans (g.B.Bank.trees c.args.bank.now) (g.B.Bank.trees c.variables.new.bank) (g.B.Bank.trees c.app.new.self) c.variables.ensures.grows c.app.ensures.grows) c.add_known.ensures.grows
