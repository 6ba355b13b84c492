use Rattle.std.proofs.Common.{length, ◌-◌}
use Rattle.std.specs.Prelude.{map}
use Rattle.pi_lexer.specs.Token.{token_of}
use Rattle.pi_lexer.proofs.Lexing.{IsSoFar}
use Rattle.pi_lexer.proofs.lex.Given as goal

abbrev pub invariant-loop-at : goal.invariant-loop-at
invariant-loop-at l = IsSoFar l.source l.at (map token_of l.items.items)

abbrev pub decreases-loop-at : goal.decreases-loop-at
decreases-loop-at l = length l.source - l.at
