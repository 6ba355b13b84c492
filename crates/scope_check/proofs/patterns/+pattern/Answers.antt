-- One more pattern is read.
use Rattle.std.proofs.Common.{map, arith}
use Rattle.std.proofs.lemmas.Grind.{common_steps}
use Rattle.scope_declarations.specs.Bound.{binding_of, bound_of}
use Rattle.scope_declarations.specs.Scope.{scope_of}
use Rattle.scope_check.proofs.Rows.{one_pattern_more}
use Rattle.scope_check.proofs.patterns.+pattern.Goals as goal

pub patterns-loop-sketch-preserved : goal.patterns-loop-sketch-preserved
patterns-loop-sketch-preserved t c = record {
  finds = c.in_ok-item.ensures.finds;
  rest = one_pattern_more (scope_of c.args.place.now.scope) (bound_of c.args.place.now.bound.now) c.args.first (map binding_of c.loop-sketch.found.items.items) (map binding_of c.pattern.new.found.items.items) c.deref-sketch-items.result.now c.loop-sketch.sketch-index
      c.sketch-item.result c.loop-sketch.items.items c.push.new.self.items c.in_ok-item.item _ c.loop-sketch-test.true c.sketch-item.is c.in_ok-push.ensures.items c.in_ok-item.ensures.read c.loop-sketch.invariant.rest;
}

pub pattern-returns-then-given-eq0-clause-read : goal.pattern-returns-then-given-eq0-clause-read
pattern-returns-then-given-eq0-clause-read t c = grind (arith, common_steps)

pub patterns-returns-in_err-item-clause-read : goal.patterns-returns-in_err-item-clause-read
patterns-returns-in_err-item-clause-read t c = grind (arith, common_steps)

pub patterns-returns-clause-read : goal.patterns-returns-clause-read
patterns-returns-clause-read t c = grind (arith, common_steps)

pub pattern-returns-in_ok-arguments-in-Named-clause-read : goal.pattern-returns-in_ok-arguments-in-Named-clause-read
pattern-returns-in_ok-arguments-in-Named-clause-read t c = grind (arith, common_steps)

pub pattern-returns-in_ok-term-in-Equal-clause-read : goal.pattern-returns-in_ok-term-in-Equal-clause-read
pattern-returns-in_ok-term-in-Equal-clause-read t c = grind (arith, common_steps)

pub pattern-returns-in_ok-patterns-in-Grouped-clause-read : goal.pattern-returns-in_ok-patterns-in-Grouped-clause-read
pattern-returns-in_ok-patterns-in-Grouped-clause-read t c = grind (arith, common_steps)

pub pattern-returns-in_ok-patterns-in-Grouped-clause-finds : goal.pattern-returns-in_ok-patterns-in-Grouped-clause-finds
pattern-returns-in_ok-patterns-in-Grouped-clause-finds t c = grind (arith, common_steps)

pub patterns-loop-sketch-init : goal.patterns-loop-sketch-init
patterns-loop-sketch-init t c = grind (arith, common_steps)
