use Rattle.std.proofs.Common.{arith}
use Rattle.std.proofs.lemmas.Grind.{common_steps}
use Rattle.term_tree.specs.Bank.{tree_at}
use Rattle.unify_match.proofs.Substituting.{unbound_stays}
use Rattle.unify_match.proofs.apply.apply_bound.Goals as goal

pub returns-clause-unchanged : goal.returns-clause-unchanged
returns-clause-unchanged g c unbound =
    let all = g.B.Bank.trees c.args.bank.now in
    c.substituted.ensures.unchanged (unbound_stays all c.args.binds.now.pairs (tree_at all c.args.id) unbound)

pub returns-clause-itself : goal.returns-clause-itself
returns-clause-itself g c unbound =
    let all = g.B.Bank.trees c.args.bank.now in
    c.in_ok-made.ensures.itself (unbound_stays all c.args.binds.now.pairs (tree_at all c.args.id) unbound)

pub returns-clause-outcome : goal.returns-clause-outcome
returns-clause-outcome g c = grind (arith, common_steps)

pub returns-then-is_none-clause-outcome : goal.returns-then-is_none-clause-outcome
returns-then-is_none-clause-outcome g c = grind (arith, common_steps)
