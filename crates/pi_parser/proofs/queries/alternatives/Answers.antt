-- No alternatives stand there.
use Rattle.std.proofs.Common.{arith}
use Rattle.std.proofs.lemmas.Grind.{common_steps}
use Rattle.spec_protocol_grammar.specs.Reading.{alternatives_at}
use Rattle.pi_parser.proofs.queries.alternatives.Goals as goal

pub returns-then-is_at-clause-read : goal.returns-then-is_at-clause-read
unfolding alternatives_at
returns-then-is_at-clause-read c = grind (arith, common_steps)
