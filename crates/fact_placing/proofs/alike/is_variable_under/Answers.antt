use Rattle.std.proofs.Common.{Some}
use Rattle.term_tree.specs.Bank.{tree_at}
use Rattle.clause_diffs.specs.Diffs.{side_shown}
use Rattle.fact_placing.proofs.Values.{value_known, variable_told, shown_told}
use Rattle.fact_placing.proofs.alike.is_variable_under.Goals as goal

pub is_own_side-requires-clause-left : goal.is_own_side-requires-clause-left
is_own_side-requires-clause-left g c =
    value_known (g.B.Bank.trees c.args.from.now.bank.now) c.args.from.now.binds.now.pairs c.args.from.now.first c.args.number c.in-Some.value c.requires.bindings c.in-Some.ensures

pub returns-in-Some : goal.returns-in-Some
returns-in-Some g c =
    let all = g.B.Bank.trees c.args.from.now.bank.now in
    variable_told all c.args.from.now.binds.now.pairs c.args.from.now.first c.args.number c.args.left (Some c.in-Some.value) (side_shown c.args.other (tree_at all c.args.right)) c.is_own_side.result c.requires.variable c.in-Some.ensures c.is_own_side.ensures

pub returns-in-None : goal.returns-in-None
returns-in-None g c =
    let all = g.B.Bank.trees c.args.from.now.bank.now in
    shown_told all c.args.from.now.binds.now.pairs c.args.from.now.first c.args.number c.args.left (side_shown c.args.other (tree_at all c.args.right)) c.is_same_side.result c.requires.variable c.in-None.ensures c.is_same_side.ensures
