-- The answer for the classes is that for the tokens.
use Rattle.std.proofs.Common.{◌∙◌}
use Rattle.pi_parser.proofs.Tokens.{reading}
use Rattle.pi_parser.proofs.read.Goals as goal

pub returns : goal.returns
returns c = reading c.args.source.now c.args.tokens.now c.deref.result.now _ (c.deref.ensures.value ∙ c.in_ok-classes.ensures) c.file.ensures
