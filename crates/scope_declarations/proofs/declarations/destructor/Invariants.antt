-- the rules so far and those from here on are all of them
use Rattle.std.proofs.Common.{◌≡◌, [], ◌∷◌, map, drop}
use Rattle.spec_protocol_scope.specs.Declarations.{rule, further_rules}
use Rattle.spec_protocol_scope.specs.Answers.{◌>>=◌}
use Rattle.pi_parser.specs.Files as sketched
use Rattle.pi_tree.specs.Rules.{rule_of}
use Rattle.scope_declarations.specs.Scope.{scope_of}
use Rattle.scope_declarations.proofs.Steps.{joined}
use Rattle.scope_declarations.proofs.declarations.destructor.Given as goal

abbrev pub invariant-loop-other : goal.invariant-loop-other
invariant-loop-other l =
    joined (map rule_of l.items.items) (further_rules (scope_of l.scope) (sketched.rule_of l.said.first.now) (map sketched.rule_of (drop l.other-index l.said.others.now)))
    ≡ (rule (scope_of l.scope) (sketched.rule_of l.said.first.now) >>= λ one. joined (one ∷ []) (further_rules (scope_of l.scope) (sketched.rule_of l.said.first.now) (map sketched.rule_of l.said.others.now)))
