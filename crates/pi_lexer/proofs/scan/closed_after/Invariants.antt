use Rattle.std.proofs.Common.{◌≡◌, ◌+◌, drop}
use Rattle.std.specs.Prelude.{option_map}
use Rattle.spec_protocol_tokens.specs.Piece.{closed_after}
use Rattle.pi_lexer.proofs.scan.closed_after.Given as goal

-- the end is i bytes further from the start than from here
abbrev pub invariant-loop-i : goal.invariant-loop-i
invariant-loop-i l = closed_after l.bytes ≡ option_map (λ n. l.i + n) (closed_after (drop l.i l.bytes))
