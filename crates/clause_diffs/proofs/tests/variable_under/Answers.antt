use Rattle.std.proofs.Common.{◌∙◌, map, ap, sym}
use Rattle.term_tree.specs.Bank.{symbol_of, tree_at}
use Rattle.unify_match.proofs.SeenLemmas.{AreInBank-at}
use Rattle.clause_diffs.specs.Telling.{variable_of}
use Rattle.clause_diffs.proofs.Telling.{unbound_stays, next_same, next_lower, no_variable}
use Rattle.clause_diffs.proofs.tests.variable_under.Goals as goal

pub returns-in-None : goal.returns-in-None
returns-in-None g c = sym (ap variable_of (sym c.chain.invariant) ∙ unbound_stays (g.B.Bank.trees c.args.bank.now) c.args.binds.now.pairs c.chain.at (sym c.in-None.ensures))

pub node-requires : goal.node-requires
node-requires g c = AreInBank-at (g.B.Bank.trees c.args.bank.now) c.args.binds.now.pairs c.chain.at c.in-Some.id c.requires.ready.known (sym c.in-Some.ensures)

pub chain-smaller : goal.chain-smaller
chain-smaller g c = next_lower (g.B.Bank.trees c.args.bank.now) c.args.binds.now.pairs c.chain.at c.in-Var.next c.in-Some.id c.requires.ready (sym c.in-Some.ensures) c.in-Var.ensures

pub chain-preserved : goal.chain-preserved
chain-preserved g c = next_same (g.B.Bank.trees c.args.bank.now) c.args.binds.now.pairs c.chain.at c.in-Var.next c.in-Some.id c.requires.ready (sym c.in-Some.ensures) c.in-Var.ensures ∙ c.chain.invariant

pub returns-in-App : goal.returns-in-App
returns-in-App g c =
    let all = g.B.Bank.trees c.args.bank.now in
    sym (ap variable_of (sym c.chain.invariant) ∙ no_variable all c.args.binds.now.pairs c.chain.at c.in-Some.id (symbol_of c.in-App.field-0) (map (tree_at all) c.in-App.field-1.now) c.requires.ready (sym c.in-Some.ensures) c.in-App.ensures.0)
