-- The table finds one binding more.
use Rattle.std.proofs.Common.{◌∙◌}
use Rattle.scope_declarations.specs.Text.{texts_of}
use Rattle.scope_declarations.proofs.Few.{bindings_more}
use Rattle.scope_declarations.proofs.Tables.{bound_more}
use Rattle.scope_declarations.proofs.bound.bind.Goals as goal

pub returns-clause-finds : goal.returns-clause-finds
returns-clause-finds c = record {
  finds = bound_more (texts_of c.args.whole.now) c.args.bindings.now.names c.insert.new.self c.args.bindings.now.items.items c.push.new.self.items c.args.binding c.in_ok-word.word.items
      c.in_ok-push.ensures.items (c.in_ok-word.ensures.items ∙ c.text_of.ensures) c.in_ok-insert.ensures.updates c.requires.finds.finds c.requires.fresh;
  few = bindings_more c.args.whole.now c.args.bindings.now.items.items c.push.new.self.items c.args.binding c.in_ok-push.ensures.items c.requires.fresh c.requires.finds.few;
}
