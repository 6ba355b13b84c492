use Rattle.std.proofs.Common.{map, arith}
use Rattle.std.proofs.lemmas.Grind.{common_steps}
use Rattle.std.proofs.lemmas.Bool.{MatchBool-at_true}
use Rattle.unify_match.proofs.Unifying.{unified_all}
use Rattle.term_tree.specs.Bank.{tree_at}
use Rattle.unify_match.proofs.unification.unify_all.Goals as goal

pub returns-in-Ok-true-clause-outcome : goal.returns-in-Ok-true-clause-outcome
returns-in-Ok-true-clause-outcome g c =
    let all = g.B.Bank.trees c.args.bank.now in
    unified_all all c.args.binds.now.pairs c.unify_each.new.binds.pairs (map (tree_at all) c.args.lefts.now) (map (tree_at all) c.args.rights.now) c.unify_each.ensures.ready c.unify_each.ensures.grown (MatchBool-at_true _ _ c.in-Ok-true.field-0-test c.in-Ok-true.ensures.outcome)

pub undo-requires : goal.undo-requires
undo-requires g c = grind (arith, common_steps)

pub returns-in-Ok-false-clause-ready : goal.returns-in-Ok-false-clause-ready
returns-in-Ok-false-clause-ready g c = grind (arith, common_steps)

pub returns-in-Ok-false-clause-no_unifier : goal.returns-in-Ok-false-clause-no_unifier
returns-in-Ok-false-clause-no_unifier g c = grind (arith, common_steps)

pub undo-requires-in-Err : goal.undo-requires-in-Err
undo-requires-in-Err g c = grind (arith, common_steps)

pub returns-clause-ready : goal.returns-clause-ready
returns-clause-ready g c = grind (arith, common_steps)

pub returns-clause-err : goal.returns-clause-err
returns-clause-err g c = grind (arith, common_steps)
