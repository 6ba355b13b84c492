-- the names so far and those of the declarations from here on are all of them
use Rattle.std.proofs.Common.{◌≡◌, map, drop}
use Rattle.spec_protocol_scope.specs.Names.{no_names}
use Rattle.spec_protocol_scope.specs.Declarations.{declare_all}
use Rattle.scope_declarations.specs.Text.{texts_of}
use Rattle.pi_parser.specs.Files.{declaration_of}
use Rattle.scope_declarations.specs.Names.{names_of, IsKept}
use Rattle.scope_declarations.proofs.declarations.declare_all.Given as goal

abbrev pub invariant-loop-declaration : goal.invariant-loop-declaration
invariant-loop-declaration l = record {
  rest : declare_all (texts_of l.whole) (names_of l.names) (map declaration_of (drop l.declaration-index l.declarations)) ≡ declare_all (texts_of l.whole) no_names (map declaration_of l.declarations);
  kept : IsKept (texts_of l.whole) l.names;
}
