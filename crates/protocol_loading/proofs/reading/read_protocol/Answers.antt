-- A step that stops refuses the bytes.
use Rattle.std.proofs.lemmas.Result.{err_from_is_err_and}
use Rattle.protocol_loading.proofs.Refusals.{lex_refused, parse_refused}
use Rattle.protocol_loading.proofs.reading.read_protocol.Goals as goal

pub returns-in_err-tokens-clause-refused : goal.returns-in_err-tokens-clause-refused
returns-in_err-tokens-clause-refused c =
    let p = err_from_is_err_and c.from_residual.result c.from_residual.ensures.1 in
    rw p.1 (lex_refused c.args.bytes.now c.in_err-tokens.field-0.0 p.0 c.requires c.in_err-tokens.ensures.refused p.2)

pub returns-in_err-sketch-clause-refused : goal.returns-in_err-sketch-clause-refused
returns-in_err-sketch-clause-refused c =
    let p = err_from_is_err_and c.from_residual-in_err-sketch.result c.from_residual-in_err-sketch.ensures.1 in
    rw p.1 (parse_refused c.args.bytes.now _ c.in_err-sketch.field-0.0 p.0 c.requires c.in_ok-tokens.ensures.lexed c.in_err-sketch.ensures.refused p.2)
