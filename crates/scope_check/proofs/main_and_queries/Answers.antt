-- The main process has few points.
use Rattle.std.proofs.Common.{arith}
use Rattle.std.proofs.lemmas.Grind.{common_steps}
use Rattle.scope_declarations.specs.Text.{texts_of}
use Rattle.pi_parser.specs.Files.{file_of}
use Rattle.pi_tree.specs.Processes.{process_of}
use Rattle.scope_declarations.specs.Names.{names_of}
use Rattle.scope_check.proofs.main_and_queries.Goals as goal

pub queries-requires : goal.queries-requires
queries-requires c =
    rw c.deref-2.ensures (c.main_process_points.ensures (record { text = texts_of c.args.whole.now; names = names_of c.args.names.now }) (file_of c.args.sketch.now).main (process_of c.in_ok-main.main.value) c.in_ok-main.ensures)

pub returns : goal.returns
returns c = grind (arith, common_steps)
