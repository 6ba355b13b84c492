-- The tokens that are read once more are those of the sketch.
use Rattle.std.proofs.Common.{List, sym, subst}
use Rattle.spec_protocol_tokens.specs.Token.{Token}
use Rattle.pi_parser.specs.Answers.{IsSpelled}
use Rattle.pi_parser.specs.Files.{file_of}
use Rattle.scope_check.proofs.check_scope.Goals as goal

pub memory_error-requires : goal.memory_error-requires
memory_error-requires c = c.in-Err.ensures.accepts c.requires.tokens c.requires.lexed

pub check_tokens-requires-clause-spelled : goal.check_tokens-requires-clause-spelled
check_tokens-requires-clause-spelled c =
    subst (λ (ts : List Token). IsSpelled c.args.source.now ts (file_of c.args.sketch.now)) (sym (c.in-Ok.ensures.accepts c.requires.tokens c.requires.lexed)) c.requires.read
