-- the queries so far and those of the declarations from here on are all of them
use Rattle.std.proofs.Common.{◌≡◌, map, drop, length}
use Rattle.spec_protocol_scope.specs.Queries as rules
use Rattle.pi_parser.specs.Files.{declaration_of}
use Rattle.pi_tree.specs.Processes.{process_of}
use Rattle.pi_tree.specs.Queries.{query_of}
use Rattle.scope_declarations.specs.Scope.{scope_of}
use Rattle.scope_declarations.proofs.Steps.{joined}
use Rattle.scope_check.proofs.queries.queries.Given as goal

abbrev pub invariant-loop-declaration : goal.invariant-loop-declaration
invariant-loop-declaration l =
    joined (map query_of l.items.items) (rules.queries (scope_of l.scope) (process_of l.main) (length l.items.items) (map declaration_of (drop l.declaration-index l.declarations)))
    ≡ rules.queries (scope_of l.scope) (process_of l.main) 0 (map declaration_of l.declarations)
