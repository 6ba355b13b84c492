-- The word was not declared before.
use Rattle.std.proofs.Common.{ap, ◌∙◌, arith}
use Rattle.std.proofs.lemmas.Grind.{common_steps}
use Rattle.spec_protocol_scope.specs.Names as own
use Rattle.scope_declarations.specs.Text.{texts_of}
use Rattle.scope_declarations.specs.Names.{names_of}
use Rattle.scope_declarations.proofs.declarations.declare_table.Goals as goal

pub returns-clause-kept : goal.returns-clause-kept
returns-clause-kept c =
    let new = c.in_ok-found.ensures.new in
    let text = texts_of c.args.whole.now in
    c.in_ok-add_table.ensures.kept text c.requires (ap (own.meaning_of text (names_of c.args.names.now)) new.spelled ∙ new.fresh)

pub returns-clause-read : goal.returns-clause-read
returns-clause-read c = grind (arith, common_steps)
