-- the alternatives so far and those from here on are all of them
use Rattle.std.proofs.Common.{◌≡◌, map, drop}
use Rattle.spec_protocol_scope.specs.Queries as rules
use Rattle.pi_parser.specs.Files.{alternative_of}
use Rattle.scope_declarations.specs.Scope.{scope_of}
use Rattle.scope_declarations.specs.Variables.{FindsVariables}
use Rattle.scope_declarations.proofs.Steps.{collected}
use Rattle.scope_check.proofs.queries.alternatives.Given as goal

abbrev pub invariant-loop-sketch : goal.invariant-loop-sketch
invariant-loop-sketch l = record {
  known : FindsVariables l.scope.text l.variables;
  rest : collected l.items.items (rules.alternatives (scope_of l.scope) l.variables.items.items (map alternative_of (drop l.sketch-index l.sketches)))
      ≡ rules.alternatives (scope_of l.scope) l.initial.variables.items.items (map alternative_of l.sketches);
}
