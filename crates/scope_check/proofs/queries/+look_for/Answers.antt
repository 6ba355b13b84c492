-- The restrictions of two parts in a row.
use Rattle.std.proofs.Common.{ℕ, ◌+◌, List, ◌++◌, ap, ◌∙◌, arith}
use Rattle.std.proofs.lemmas.Grind.{common_steps}
use Rattle.spec_calculus.specs.Points.{nodes}
use Rattle.spec_protocol_scope.specs.Queries as rules
use Rattle.pi_tree.specs.Processes.{process_of}
use Rattle.scope_check.specs.Restrictions.{summary}
use Rattle.scope_check.proofs.Restrictions.{both_parts, parts_of}
use Rattle.scope_check.proofs.queries.+look_for.Goals as goal

pub returns-in-Par-clause-seen : goal.returns-in-Par-clause-seen
returns-in-Par-clause-seen t c = λ before is.
    let parts = both_parts c.args.word.now c.args.point c.look_for-seen.result.1 (nodes (process_of c.deref-in-Par.result.now)) (nodes (process_of c.deref-in-Par-2.result.now)) before c.look_for-in-Par.result.0
    c.look_for-seen.ensures.behind
    (c.look_for-in-Par.ensures.seen (before ++ rules.points_of c.args.word.now (c.args.point + 1) (nodes (process_of c.deref-in-Par.result.now))) (c.look_for-seen.ensures.seen before is)) in
    parts ∙ ap (λ (points : List ℕ). summary (before ++ points))
    (parts_of c.args.word.now c.args.point c.args.process.now c.in-Par.left c.in-Par.right c.deref-in-Par.result.now c.deref-in-Par-2.result.now c.deref-in-Par.ensures c.deref-in-Par-2.ensures c.in-Par.is)

pub returns-in-Par-clause-behind : goal.returns-in-Par-clause-behind
returns-in-Par-clause-behind t c = grind (arith, common_steps)

pub returns-then-eq-clause-behind : goal.returns-then-eq-clause-behind
returns-then-eq-clause-behind t c = grind (arith, common_steps)

pub returns-else-eq-clause-behind : goal.returns-else-eq-clause-behind
returns-else-eq-clause-behind t c = grind (arith, common_steps)
