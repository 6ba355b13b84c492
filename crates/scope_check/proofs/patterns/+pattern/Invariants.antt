-- the patterns so far and those from here on are all of them
use Rattle.std.proofs.Common.{◌≡◌, map, drop}
use Rattle.spec_protocol_grammar.specs.Sketch.{patterns_sketch}
use Rattle.spec_protocol_scope.specs.Patterns as rules
use Rattle.pi_parser.specs.Patterns as sketched
use Rattle.pi_tree.specs.Patterns.{pattern_of}
use Rattle.scope_declarations.specs.Bound.{binding_of, bound_of, FindsBindings}
use Rattle.scope_declarations.specs.Scope.{scope_of}
use Rattle.scope_declarations.proofs.Steps.{collected}
use Rattle.scope_check.proofs.patterns.+pattern.Given as goal

abbrev pub invariant-patterns-loop-sketch : goal.invariant-patterns-loop-sketch
invariant-patterns-loop-sketch l = record {
  finds : FindsBindings l.place.scope.text l.found;
  rest : collected (map pattern_of l.items.items) (rules.patterns (scope_of l.place.scope) (bound_of l.place.bound.now) l.first (map binding_of l.found.items.items) (patterns_sketch (map sketched.pattern_of (drop l.sketch-index l.sketch-items))))
      ≡ rules.patterns (scope_of l.place.scope) (bound_of l.place.bound.now) l.first (map binding_of l.initial.found.items.items) (patterns_sketch (map sketched.pattern_of l.sketch-items));
}
