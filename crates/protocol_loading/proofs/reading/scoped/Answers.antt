-- The rules of scope stop where they refuse the bytes.
use Rattle.std.proofs.lemmas.Result.{err_from_is_err_and}
use Rattle.protocol_loading.proofs.Refusals.{scope_refused}
use Rattle.protocol_loading.proofs.reading.scoped.Goals as goal

pub returns-in_err-protocol-clause-refused : goal.returns-in_err-protocol-clause-refused
returns-in_err-protocol-clause-refused c =
    let p = err_from_is_err_and c.from_residual.result c.from_residual.ensures.1 in
    rw p.1 (scope_refused c.args.bytes.now c.in_err-protocol.field-0.0 p.0 c.in_err-protocol.ensures.refused p.2)
