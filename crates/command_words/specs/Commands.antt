-- The program's commands as plain data: what `clap` reads of them.
use Rattle.std.specs.Prelude.{[], ◌∷◌, Some, true, codes}
use Rattle.clap.specs.Words.{App, Rule, Shape, Text, new_app, new_rule, with_rule, with_subcommand}
use Rattle.clap.specs.declared.builder.value_parser.ValueParser.TheVariants.{Unsigned}
use Rattle.spec_calculus.specs.Bounds.{most_queries, most_budget, most_keys}

-- a file's name, which has to be given: a positional argument, read back by its id
abbrev pub name_rule : Text → Rule
name_rule id = record (new_rule id) { required = true }

-- `--budget N`: a number from 0 to the limit of budgets, and 10,000 where it is left out
abbrev pub budget_rule : Rule
budget_rule = record (new_rule (codes "budget")) {
  long = Some (codes "budget");
  parser = Some (Unsigned 0 most_budget);
  defaults = codes "10000" ∷ [];
}

-- `--format F`: 1 or 2, and 2 where it is left out
abbrev pub format_rule : Rule
format_rule = record (new_rule (codes "format")) {
  long = Some (codes "format");
  parser = Some (Unsigned 1 2);
  defaults = codes "2" ∷ [];
}

-- `verify FILE [--budget N] [--format F]`
abbrev pub verify_shape : Shape
verify_shape =
    let named = with_rule (new_app (codes "verify")) (name_rule (codes "file")) in
    (with_rule (with_rule named budget_rule) format_rule).top

-- `check FILE REPORT`
abbrev pub check_shape : Shape
check_shape =
    let named = with_rule (new_app (codes "check")) (name_rule (codes "file")) in
    (with_rule named (name_rule (codes "report"))).top

-- a query's number, from 1 to the limit of queries
abbrev pub query_rule : Rule
query_rule = record (new_rule (codes "query")) {
  required = true;
  parser = Some (Unsigned 1 most_queries);
}

-- `list FILE QUERY`
abbrev pub list_shape : Shape
list_shape =
    let named = with_rule (new_app (codes "list")) (name_rule (codes "file")) in
    (with_rule named query_rule).top

-- `replay FILE RUN`
abbrev pub replay_shape : Shape
replay_shape =
    let named = with_rule (new_app (codes "replay")) (name_rule (codes "file")) in
    (with_rule named (name_rule (codes "run"))).top

-- how many keys a ring has, from 2 to the limit
abbrev pub stages_rule : Rule
stages_rule = record (new_rule (codes "stages")) {
  required = true;
  parser = Some (Unsigned 2 most_keys);
}

-- `ring STAGES`
abbrev pub ring_shape : Shape
ring_shape = (with_rule (new_app (codes "ring")) stages_rule).top

-- the program with the commands about verdicts, one of which has to be given
abbrev pub verdicts_app : App
verdicts_app =
    let bare = new_app (codes "hv") in
    let program = record bare { top = record bare.top { subcommand_required = true } } in
    with_subcommand (with_subcommand program verify_shape) check_shape

-- the program with all its commands
abbrev pub program_app : App
program_app = with_subcommand (with_subcommand (with_subcommand verdicts_app list_shape) replay_shape) ring_shape
