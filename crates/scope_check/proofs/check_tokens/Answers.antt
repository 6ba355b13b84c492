-- The tokens are few, and the laws leave one answer.
use Rattle.std.proofs.Common.{arith}
use Rattle.pi_parser.specs.Files.{file_of}
use Rattle.scope_check.proofs.Bytes.{IsAnswered, is_read, is_refused, accepts, refuses}
use Rattle.scope_check.proofs.Shortness.{few_tokens}
use Rattle.scope_check.proofs.check_tokens.Goals as goal
use Rattle.scope_check.proofs.check_tokens.Goals.{After-placed_protocol}

pub placed_protocol-requires-clause-few : goal.placed_protocol-requires-clause-few
placed_protocol-requires-clause-few c =
    omega (arith, few_tokens c.args.source.now c.args.tokens.now (file_of c.args.sketch.now) c.requires.lexed c.requires.spelled)

is_answered : (c : After-placed_protocol) → IsAnswered c.args.source.now c.placed_protocol.result
is_answered c = record {
  tokens = c.args.tokens.now;
  lexed = c.requires.lexed;
  sketch = file_of c.args.sketch.now;
  read = c.requires.spelled;
  answers = c.placed_protocol.ensures;
}

pub returns-clause-read : goal.returns-clause-read
returns-clause-read c = is_read c.args.source.now c.placed_protocol.result c.requires.short (is_answered c)

pub returns-clause-refused : goal.returns-clause-refused
returns-clause-refused c = is_refused c.args.source.now c.placed_protocol.result c.requires.short (is_answered c)

pub returns-clause-accepts : goal.returns-clause-accepts
returns-clause-accepts c =
    accepts c.one_protocol.ensures c.never_both.ensures c.args.source.now c.placed_protocol.result (returns-clause-read c) (returns-clause-refused c)

pub returns-clause-refuses : goal.returns-clause-refuses
returns-clause-refuses c =
    refuses c.one_refusal.ensures c.never_both.ensures c.args.source.now c.placed_protocol.result (returns-clause-read c) (returns-clause-refused c)
