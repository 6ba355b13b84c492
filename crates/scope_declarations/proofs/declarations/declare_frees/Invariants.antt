-- the names so far and those from here on are all of them
use Rattle.std.proofs.Common.{◌≡◌, drop}
use Rattle.spec_protocol_scope.specs.Declarations.{declare_frees}
use Rattle.scope_declarations.specs.Text.{texts_of}
use Rattle.scope_declarations.specs.Names.{names_of, IsKept}
use Rattle.scope_declarations.proofs.declarations.declare_frees.Given as goal

abbrev pub invariant-loop-name : goal.invariant-loop-name
invariant-loop-name l = record {
  rest : declare_frees (texts_of l.whole) (names_of l.names) l.public (drop l.name-index l.items) ≡ declare_frees (texts_of l.whole) (names_of l.initial.names) l.public l.items;
  kept : IsKept (texts_of l.whole) l.names;
}
