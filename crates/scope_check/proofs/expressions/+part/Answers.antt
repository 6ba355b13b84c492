-- A root over its parts, and one more part.
use Rattle.std.proofs.Common.{arith}
use Rattle.std.proofs.lemmas.Grind.{common_steps}
use Rattle.scope_declarations.specs.Bound.{bound_of}
use Rattle.scope_check.specs.Extents.{root_of, rules_at}
use Rattle.scope_declarations.specs.Scope.{scope_of}
use Rattle.pi_tree.specs.Expressions.{expression_of}
use Rattle.scope_check.proofs.Extents.{rooted_counted, row_counted_more}
use Rattle.scope_declarations.proofs.Rows.{seen}
use Rattle.scope_check.proofs.Rows.{one_part_more}
use Rattle.scope_check.proofs.expressions.+part.Goals as goal

pub part-returns-in_ok-whole-in-Named-clause-counted : goal.part-returns-in_ok-whole-in-Named-clause-counted
part-returns-in_ok-whole-in-Named-clause-counted t c =
    rooted_counted (rules_at (scope_of c.args.place.now.scope)) (root_of c.in_ok-root-in-Named.root) c.in_ok-arguments-in-Named.arguments _ c.in_ok-arguments-in-Named.inner c.extent_of.result c.combined-extent.result
    c.in_ok-whole-in-Named.ensures.made c.in_ok-arguments-in-Named.ensures.counted c.extent_of.ensures c.combined-extent.ensures.symbols c.combined-extent.ensures.applications c.combined-extent.ensures.choices

pub parts-loop-sketch-preserved : goal.parts-loop-sketch-preserved
parts-loop-sketch-preserved t c = record {
  rest = one_part_more (scope_of c.args.place.now.scope) (bound_of c.args.place.now.bound.now) c.deref-sketch-items.result.now c.loop-sketch.sketch-index c.sketch-item.result c.loop-sketch.items.items c.push.new.self.items c.in_ok-item.item _
      c.loop-sketch-test.true c.sketch-item.is c.in_ok-push.ensures.items c.in_ok-item.ensures.read c.loop-sketch.invariant.rest;
  counted = row_counted_more (rules_at (scope_of c.args.place.now.scope)) _ _ (expression_of c.in_ok-item.item) c.loop-sketch.extent c.in_ok-item.more c.combined-extent.result
      (seen expression_of c.loop-sketch.items.items c.push.new.self.items c.in_ok-item.item c.in_ok-push.ensures.items) c.loop-sketch.invariant.counted c.in_ok-item.ensures.counted
      c.combined-extent.ensures.symbols c.combined-extent.ensures.applications c.combined-extent.ensures.choices;
}

pub parts-returns-in_err-item-clause-read : goal.parts-returns-in_err-item-clause-read
parts-returns-in_err-item-clause-read t c = grind (arith, common_steps)

pub parts-returns-clause-read : goal.parts-returns-clause-read
parts-returns-clause-read t c = grind (arith, common_steps)

pub part-returns-in_err-whole-in-Named-clause-read : goal.part-returns-in_err-whole-in-Named-clause-read
part-returns-in_err-whole-in-Named-clause-read t c = grind (arith, common_steps)

pub part-returns-in_ok-whole-in-Named-clause-read : goal.part-returns-in_ok-whole-in-Named-clause-read
part-returns-in_ok-whole-in-Named-clause-read t c = grind (arith, common_steps)

pub part-returns-in_err-arguments-in-Named-clause-read : goal.part-returns-in_err-arguments-in-Named-clause-read
part-returns-in_err-arguments-in-Named-clause-read t c = grind (arith, common_steps)

pub parts-loop-sketch-init : goal.parts-loop-sketch-init
parts-loop-sketch-init t c = grind (arith, common_steps)
