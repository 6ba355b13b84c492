-- The error has the place of the fault's token.
use Rattle.scope_check.proofs.Bytes.{stops_error}
use Rattle.scope_check.proofs.placed_protocol.Goals as goal

pub returns-in-Err : goal.returns-in-Err
returns-in-Err c = stops_error c.args.source.now c.args.tokens.now c.in-Err.stop _ _ c.in-Err.ensures c.error_at.ensures
