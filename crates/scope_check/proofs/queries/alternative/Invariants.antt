-- the events so far and those from here on are all of them
use Rattle.std.proofs.Common.{◌≡◌, ◌∷◌, map, drop}
use Rattle.spec_protocol_scope.specs.Queries as rules
use Rattle.pi_parser.specs.Terms.{atom_of}
use Rattle.pi_tree.specs.Events.{event_of}
use Rattle.scope_declarations.specs.Scope.{scope_of}
use Rattle.scope_declarations.specs.Variables.{FindsVariables}
use Rattle.scope_declarations.proofs.Steps.{collected}
use Rattle.scope_check.proofs.queries.alternative.Given as goal

abbrev pub invariant-loop-atom : goal.invariant-loop-atom
invariant-loop-atom l = record {
  known : FindsVariables l.scope.text l.variables;
  rest : collected (map event_of l.items.items) (rules.asked_events (scope_of l.scope) l.variables.items.items (map atom_of (drop l.atom-index l.sketch.others.items)))
      ≡ rules.asked_events (scope_of l.scope) l.fn.variables.items.items (atom_of l.sketch.atom ∷ map atom_of l.sketch.others.items);
}
