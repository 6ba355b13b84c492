-- the parts so far and those from here on are all of them
use Rattle.std.proofs.Common.{◌≡◌, map, drop}
use Rattle.spec_protocol_grammar.specs.Sketch.{terms_sketch}
use Rattle.spec_protocol_scope.specs.Expressions as rules
use Rattle.pi_parser.specs.Terms as sketched
use Rattle.pi_tree.specs.Expressions.{expression_of}
use Rattle.scope_declarations.specs.Bound.{bound_of}
use Rattle.scope_check.specs.Extents.{rules_at, CountsRow}
use Rattle.scope_declarations.specs.Scope.{scope_of}
use Rattle.scope_declarations.proofs.Steps.{joined}
use Rattle.scope_check.proofs.expressions.+part.Given as goal

abbrev pub invariant-parts-loop-sketch : goal.invariant-parts-loop-sketch
invariant-parts-loop-sketch l = record {
  rest : joined (map expression_of l.items.items) (rules.parts (scope_of l.place.scope) (bound_of l.place.bound.now) (terms_sketch (map sketched.term_of (drop l.sketch-index l.sketch-items))))
      ≡ rules.parts (scope_of l.place.scope) (bound_of l.place.bound.now) (terms_sketch (map sketched.term_of l.sketch-items));
  counted : CountsRow (rules_at (scope_of l.place.scope)) (map expression_of l.items.items) l.extent;
}
