-- One more term is read.
use Rattle.std.proofs.Common.{arith}
use Rattle.std.proofs.lemmas.Grind.{common_steps}
use Rattle.scope_declarations.specs.Scope.{scope_of}
use Rattle.scope_declarations.specs.Terms.{setting_of}
use Rattle.scope_declarations.proofs.Rows.{one_term_more, counted_more}
use Rattle.scope_declarations.proofs.Steps.{sizes_seen}
use Rattle.scope_declarations.proofs.terms.+term.Goals as goal

pub terms-loop-sketch-preserved : goal.terms-loop-sketch-preserved
terms-loop-sketch-preserved t c = record {
  known = c.in_ok-item.ensures.known;
  rest = one_term_more (scope_of c.args.scope.now) (setting_of c.args.setting.now) c.loop-sketch.variables.items.items c.term.new.variables.items.items c.deref-sketch-items.result.now c.loop-sketch.sketch-index c.sketch-item.result
      c.loop-sketch.items.items c.push.new.self.items c.in_ok-item.item _ c.loop-sketch-test.true c.sketch-item.is c.in_ok-push.ensures.items c.in_ok-item.ensures.read c.loop-sketch.invariant.rest;
  counted = counted_more c.loop-sketch.items.items c.push.new.self.items c.in_ok-item.item c.loop-sketch.symbols c.in_ok-item.more c.plus-symbols.result
      c.in_ok-push.ensures.items c.loop-sketch.invariant.counted c.in_ok-item.ensures.counted c.plus-symbols.ensures;
}

pub terms-returns-in_err-item-clause-read : goal.terms-returns-in_err-item-clause-read
terms-returns-in_err-item-clause-read t c = grind (arith, common_steps, sizes_seen)

pub terms-returns-clause-read : goal.terms-returns-clause-read
terms-returns-clause-read t c = grind (arith, common_steps, sizes_seen)

pub term-returns-then-given-eq0-clause-read : goal.term-returns-then-given-eq0-clause-read
term-returns-then-given-eq0-clause-read t c = grind (arith, common_steps)

pub term-returns-in_ok-arguments-in-Named-clause-read : goal.term-returns-in_ok-arguments-in-Named-clause-read
term-returns-in_ok-arguments-in-Named-clause-read t c = grind (arith, common_steps)

pub term-returns-in_ok-arguments-in-Named-clause-known : goal.term-returns-in_ok-arguments-in-Named-clause-known
term-returns-in_ok-arguments-in-Named-clause-known t c = grind (arith, common_steps)

pub term-returns-in_ok-parts-in-Grouped-clause-read : goal.term-returns-in_ok-parts-in-Grouped-clause-read
term-returns-in_ok-parts-in-Grouped-clause-read t c = grind (arith, common_steps)

pub term-returns-in_ok-parts-in-Grouped-clause-known : goal.term-returns-in_ok-parts-in-Grouped-clause-known
term-returns-in_ok-parts-in-Grouped-clause-known t c = grind (arith, common_steps)

pub term-terms-requires : goal.term-terms-requires
term-terms-requires t c = grind (arith, common_steps)

pub term-terms-requires-in-Grouped : goal.term-terms-requires-in-Grouped
term-terms-requires-in-Grouped t c = grind (arith, common_steps)

pub terms-loop-sketch-init : goal.terms-loop-sketch-init
terms-loop-sketch-init t c = grind (arith, common_steps)

pub term-returns-then-given-eq0-clause-counted : goal.term-returns-then-given-eq0-clause-counted
term-returns-then-given-eq0-clause-counted t c = grind arith
