use Rattle.std.proofs.Common.{arith}
use Rattle.std.proofs.lemmas.Grind.{common_steps}
use Rattle.std.proofs.lemmas.Bool.{MatchBool-at_true}
use Rattle.term_tree.specs.Bank.{tree_at}
use Rattle.unify_match.proofs.Matchings.{matched}
use Rattle.unify_match.proofs.matching.match_onto.Goals as goal

pub returns-in-Ok-true-clause-outcome : goal.returns-in-Ok-true-clause-outcome
returns-in-Ok-true-clause-outcome g c =
    let all = g.B.Bank.trees c.args.bank.now in
    matched all c.args.binds.now.pairs c.match_from.new.binds.pairs (tree_at all c.args.general) (tree_at all c.args.special) c.match_from.ensures.bindings c.match_from.ensures.extends
    (MatchBool-at_true _ _ c.in-Ok-true.field-0-test c.in-Ok-true.ensures.outcome)

pub undo-requires : goal.undo-requires
undo-requires g c = grind (arith, common_steps)

pub undo-requires-in-Err : goal.undo-requires-in-Err
undo-requires-in-Err g c = grind (arith, common_steps)

pub returns-in-Ok-false-clause-bindings : goal.returns-in-Ok-false-clause-bindings
returns-in-Ok-false-clause-bindings g c = grind (arith, common_steps)

pub returns-in-Ok-false-clause-no_match : goal.returns-in-Ok-false-clause-no_match
returns-in-Ok-false-clause-no_match g c = grind (arith, common_steps)

pub returns-in-Err-clause-bindings : goal.returns-in-Err-clause-bindings
returns-in-Err-clause-bindings g c = grind (arith, common_steps)

pub returns-in-Err-clause-err : goal.returns-in-Err-clause-err
returns-in-Err-clause-err g c = grind (arith, common_steps)
