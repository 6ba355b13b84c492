use Rattle.std.proofs.Common.{◌∙◌, ap, sym}
use Rattle.std.specs.Prelude.{codes}
use Rattle.spec_protocol_tokens.specs.Piece.{begins}
use Rattle.spec_protocol_tokens.proofs.Closing.{closed_after_more}
use Rattle.pi_lexer.proofs.Lexing.{rest_of-drop}
use Rattle.pi_lexer.proofs.scan.closed_after.Goals as goal

-- no end stands here
pub loop-i-preserved : goal.loop-i-preserved
loop-i-preserved c =
    let absent = ap (begins (codes "*)")) (sym (rest_of-drop c.args.bytes.now c.loop-i.i)) ∙ (sym c.starts_with.ensures.value ∙ c.if-starts_with.false) in
    closed_after_more c.args.bytes.now c.loop-i.i c.loop-i-test.true c.loop-i.invariant absent
