-- What names are read by, as contracts see it.
use Rattle.spec_protocol_scope.specs.Names as own
use Rattle.scope_declarations.specs.Text.{texts_of}
use Rattle.scope_declarations.specs.Names.{names_of}
use Rattle.scope_declarations.specs.declared.scope.Scope.{Scope}

-- the text of each token, and the names that are declared
abbrev pub scope_of : Scope → own.Scope
scope_of s = record { text = texts_of s.text; names = names_of s.names.now }
