-- The table finds one variable more, which has a text of its own.
use Rattle.std.proofs.Common.{◌∙◌}
use Rattle.scope_declarations.specs.Text.{texts_of}
use Rattle.scope_declarations.proofs.Few.{variables_more}
use Rattle.scope_declarations.proofs.Numbered.{variable_more}
use Rattle.scope_declarations.proofs.variables.add_variable.Goals as goal

pub returns-clause-finds : goal.returns-clause-finds
returns-clause-finds c = record {
  finds = variable_more (texts_of c.args.whole.now) c.args.variables.now.numbers c.insert.new.self c.args.variables.now.items.items c.push.new.self.items c.args.token c.args.number c.in_ok-word.word.items
      c.in_ok-push.ensures.items c.requires.next (c.in_ok-word.ensures.items ∙ c.text_of.ensures) c.in_ok-insert.ensures.updates c.requires.finds.finds c.requires.fresh;
  few = variables_more c.args.whole.now c.args.variables.now.items.items c.push.new.self.items c.args.token c.in_ok-push.ensures.items c.requires.fresh c.requires.finds.few;
}
