-- Where the main process and the queries are read, so is the file, and where one has a fault.
use Rattle.std.proofs.Common.{rules, ◌≡◌, ◌∙◌, map, ap}
use Rattle.std.proofs.lemmas.Result.{err_from_is_err_and}
use Rattle.spec_protocol_scope.specs.Names.{no_names}
use Rattle.spec_protocol_scope.specs.Declarations.{declare_all}
use Rattle.scope_declarations.specs.Text.{texts_of}
use Rattle.pi_parser.specs.Files.{declaration_of, file_of}
use Rattle.pi_tree.specs.Processes.{process_of}
use Rattle.scope_declarations.specs.Names.{names_of}
use Rattle.scope_check.proofs.Stopping.{stops_main, found_main}
use Rattle.scope_check.proofs.protocol.Goals as goal

pub returns : goal.returns
returns c =
    let text = texts_of c.args.whole.now in
    let are : map declaration_of c.args.sketch.now.declarations.items ≡ map declaration_of c.deref.result.now = search rules in
    rw c.into_protocol.ensures (found_main text (names_of c.in_ok-names.names) (file_of c.args.sketch.now) (process_of c.in_ok-main.main.value, c.in_ok-main.queries)
    (ap (declare_all text no_names) are ∙ c.in_ok-names.ensures.read) c.in_ok-main.ensures)

pub returns-in_err-main : goal.returns-in_err-main
returns-in_err-main c =
    let p = err_from_is_err_and c.from_residual-in_err-main.result c.from_residual-in_err-main.ensures.1 in
    let text = texts_of c.args.whole.now in
    let are : map declaration_of c.args.sketch.now.declarations.items ≡ map declaration_of c.deref.result.now = search rules in
    rw (p.1, p.2) (stops_main c.in_err-main.field-0.0 text (names_of c.in_ok-names.names) (file_of c.args.sketch.now) (ap (declare_all text no_names) are ∙ c.in_ok-names.ensures.read) c.in_err-main.ensures)
