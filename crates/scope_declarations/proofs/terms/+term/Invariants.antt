-- the terms so far and those from here on are all of them
use Rattle.std.proofs.Common.{◌≡◌, map, drop}
use Rattle.spec_trees.specs.Tree.{sizes, trees}
use Rattle.spec_protocol_grammar.specs.Sketch.{terms_sketch}
use Rattle.spec_protocol_scope.specs.Terms as rules
use Rattle.pi_parser.specs.Terms as sketched
use Rattle.pi_tree.specs.Terms.{term_of}
use Rattle.scope_declarations.specs.Scope.{scope_of}
use Rattle.scope_declarations.specs.Terms.{setting_of, capped}
use Rattle.scope_declarations.specs.Variables.{FindsVariables}
use Rattle.scope_declarations.proofs.Steps.{collected}
use Rattle.scope_declarations.proofs.terms.+term.Given as goal

abbrev pub invariant-terms-loop-sketch : goal.invariant-terms-loop-sketch
invariant-terms-loop-sketch l = record {
  known : FindsVariables l.scope.text l.variables;
  rest : collected (map term_of l.items.items) (rules.terms (scope_of l.scope) (setting_of l.setting) l.variables.items.items (terms_sketch (map sketched.term_of (drop l.sketch-index l.sketch-items))))
      ≡ rules.terms (scope_of l.scope) (setting_of l.setting) l.initial.variables.items.items (terms_sketch (map sketched.term_of l.sketch-items));
  counted : l.symbols ≡ capped (sizes (trees (map term_of l.items.items)));
}
