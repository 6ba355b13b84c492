-- The protocol that a sketch stands for, or its first fault: first of the declarations other than queries, then of the
-- main process, then of the queries.
use Rattle.std.specs.Prelude.{List, Ok}
use Rattle.spec_calculus.specs.Syntax.{Process, Query, Protocol}
use Rattle.spec_protocol_grammar.specs.Sketch.{FileSketch}
use Rattle.spec_protocol_scope.specs.Answers.{Answer, ◌>>=◌}
use Rattle.spec_protocol_scope.specs.Names.{Texts, Names, no_names}
use Rattle.spec_protocol_scope.specs.Declarations.{declare_all}
use Rattle.spec_protocol_scope.specs.Processes.{main_process}
use Rattle.spec_protocol_scope.specs.Queries.{queries}

-- a protocol of these names
abbrev pub protocol_of : Names → Process → List Query → Protocol
protocol_of names main asked =
    record { frees = names.frees; constructors = names.constructors; destructors = names.destructors; events = names.events; tables = names.tables; queries = asked; main = main }

-- the protocol of a file that declares these names
abbrev pub protocol_with : Texts → Names → FileSketch → Answer Protocol
protocol_with text names f = do
  main ← main_process (record { text = text; names = names }) f.main
  asked ← queries (record { text = text; names = names }) main 0 f.declarations
  Ok (protocol_of names main asked)

-- the protocol of a file
abbrev pub scope : Texts → FileSketch → Answer Protocol
scope text f = do
  names ← declare_all text no_names f.declarations
  protocol_with text names f
