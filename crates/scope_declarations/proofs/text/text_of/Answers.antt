-- The tokens of the bytes stand within them.
use Rattle.std.proofs.Common.{sym, ◌∙◌, arith}
use Rattle.scope_declarations.proofs.Spans.{token_within, texts_there, texts_past}
use Rattle.scope_declarations.proofs.text.text_of.Goals as goal

pub bytes_of-requires-clause-order : goal.bytes_of-requires-clause-order
bytes_of-requires-clause-order c =
    (token_within c.args.whole.now.source.now c.args.whole.now.tokens.now c.tokens.inside.items.items c.tokens.view_is c.args.whole.now.spans c.args.number c.index.result.now (omega arith) c.index.ensures).order

pub bytes_of-requires-clause-inside : goal.bytes_of-requires-clause-inside
bytes_of-requires-clause-inside c =
    (token_within c.args.whole.now.source.now c.args.whole.now.tokens.now c.tokens.inside.items.items c.tokens.view_is c.args.whole.now.spans c.args.number c.index.result.now (omega arith) c.index.ensures).inside

pub returns-then-number-len : goal.returns-then-number-len
returns-then-number-len c =
    c.bytes_of.ensures ∙ sym (texts_there c.args.whole.now.source.now c.args.whole.now.tokens.now c.tokens.inside.items.items c.tokens.view_is c.args.number c.index.result.now (omega arith) c.index.ensures)

pub returns-else-number-len : goal.returns-else-number-len
returns-else-number-len c = sym (texts_past c.args.whole.now.source.now c.args.whole.now.tokens.now c.tokens.inside.items.items c.tokens.view_is c.args.number (omega arith))
