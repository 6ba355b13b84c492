-- The table finds the names with one more.
use Rattle.std.proofs.Common.{refl, ◌∙◌, ap, map, arith}
use Rattle.std.proofs.lemmas.Grind.{common_steps}
use Rattle.std.proofs.lemmas.List.{map-append}
use Rattle.spec_protocol_scope.specs.Names as own
use Rattle.scope_declarations.specs.Text.{texts_of}
use Rattle.spec_protocol_scope.specs.Declarations.{with_macro}
use Rattle.pi_parser.specs.Processes.{process_of}
use Rattle.scope_declarations.specs.declared.names.Meaning.TheVariants.{Macro}
use Rattle.scope_declarations.specs.Names.{names_of, macro_of}
use Rattle.scope_declarations.proofs.Meanings.{one_more_macro, kept_more, adds_macro}
use Rattle.scope_declarations.proofs.declarations.declare_macro.Goals as goal

pub returns-clause-kept : goal.returns-clause-kept
returns-clause-kept c =
    let new = c.in_ok-new_name.ensures.new in
    let text = texts_of c.args.whole.now in
    let names = names_of c.args.names.now in
    let m : own.Macro = record { name = c.args.name; body = process_of c.args.body.now } in
    kept_more text c.args.names.now _ (with_macro names m) (text c.args.name) c.text_of.result.now Macro _
    (one_more_macro names _ m (ap (map macro_of) c.in_ok-push.ensures.items ∙ map-append macro_of c.args.names.now.macros.items _)) new.few
    c.text_of.ensures refl c.in_ok-enter.ensures c.requires
    (adds_macro text names m new.fresh)

pub returns-clause-read : goal.returns-clause-read
returns-clause-read c = grind (arith, common_steps)
