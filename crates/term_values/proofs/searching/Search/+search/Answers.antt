use Rattle.std.proofs.Common.{◌-◌, length, refl, arith}
use Rattle.std.proofs.lemmas.Grind.{common_steps}
use Rattle.spec_calculus.specs.Syntax.{Constructor, Tuple}
use Rattle.term_values.proofs.Stacks.{put_back}
use Rattle.term_values.proofs.searching.Search.+search.Goals as goal

pub some_end-returns-in_ok-arguments-in-App-clause-kept : goal.some_end-returns-in_ok-arguments-in-App-clause-kept
some_end-returns-in_ok-arguments-in-App-clause-kept t c =
    put_back c.some_end_over.result c.args.stack.now c.taken.new.stack c.in_ok-arguments-in-App.arguments c.some_end_over.new.stack (length c.args.stack.now - c.in-App.count)
    c.in_ok-arguments-in-App.ensures.rest c.in_ok-arguments-in-App.ensures.top
    (c.some_end_over.ensures.kept (Constructor c.in-App.constructor) c.in_ok-arguments-in-App.arguments refl)

pub some_end-returns-in_ok-parts-in-Tuple-clause-kept : goal.some_end-returns-in_ok-parts-in-Tuple-clause-kept
some_end-returns-in_ok-parts-in-Tuple-clause-kept t c =
    put_back c.some_end_over-in-Tuple.result c.args.stack.now c.taken-in-Tuple.new.stack c.in_ok-parts-in-Tuple.parts c.some_end_over-in-Tuple.new.stack (length c.args.stack.now - c.in-Tuple.count)
    c.in_ok-parts-in-Tuple.ensures.rest c.in_ok-parts-in-Tuple.ensures.top
    (c.some_end_over-in-Tuple.ensures.kept Tuple c.in_ok-parts-in-Tuple.parts refl)

pub some_end_by-loop-rule-preserved : goal.some_end_by-loop-rule-preserved
some_end_by-loop-rule-preserved t c = grind (arith, common_steps)

pub some_end_above-returns-clause-passes : goal.some_end_above-returns-clause-passes
some_end_above-returns-clause-passes t c = grind (arith, common_steps)

pub some_end_by-returns-then-is_none-clause-passes : goal.some_end_by-returns-then-is_none-clause-passes
some_end_by-returns-then-is_none-clause-passes t c = grind (arith, common_steps)

pub some_end_above-returns-then-branch-clause-passes : goal.some_end_above-returns-then-branch-clause-passes
some_end_above-returns-then-branch-clause-passes t c = grind (arith, common_steps)

pub some_end-returns-in_ok-put-in-Call-clause-kept : goal.some_end-returns-in_ok-put-in-Call-clause-kept
some_end-returns-in_ok-put-in-Call-clause-kept t c = grind (arith, common_steps)

pub some_end-returns-in_ok-back-in-Term-clause-kept : goal.some_end-returns-in_ok-back-in-Term-clause-kept
some_end-returns-in_ok-back-in-Term-clause-kept t c = grind (arith, common_steps)

pub some_end-returns-then-branch-clause-kept : goal.some_end-returns-then-branch-clause-kept
some_end-returns-then-branch-clause-kept t c = grind (arith, common_steps)

pub some_end_by-returns-then-is_none-clause-kept : goal.some_end_by-returns-then-is_none-clause-kept
some_end_by-returns-then-is_none-clause-kept t c = grind (arith, common_steps)

pub some_end_above-returns-clause-kept : goal.some_end_above-returns-clause-kept
some_end_above-returns-clause-kept t c = grind (arith, common_steps)

pub some_end-returns-in_ok-arguments-in-App-clause-passes : goal.some_end-returns-in_ok-arguments-in-App-clause-passes
some_end-returns-in_ok-arguments-in-App-clause-passes t c = grind (arith, common_steps)

pub some_end_above-returns-clause-back : goal.some_end_above-returns-clause-back
some_end_above-returns-clause-back t c = grind (arith, common_steps)

pub some_end-returns-in_ok-parts-in-Tuple-clause-passes : goal.some_end-returns-in_ok-parts-in-Tuple-clause-passes
some_end-returns-in_ok-parts-in-Tuple-clause-passes t c = grind (arith, common_steps)

pub some_end-returns-in_default-clause-passes : goal.some_end-returns-in_default-clause-passes
some_end-returns-in_default-clause-passes t c = grind (arith, common_steps)
