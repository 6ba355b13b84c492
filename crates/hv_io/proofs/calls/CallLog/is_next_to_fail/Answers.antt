use Rattle.std.proofs.Common.{arith}
use Rattle.std.proofs.lemmas.Grind.{common_steps}
use Rattle.hv_io.proofs.calls.CallLog.is_next_to_fail.Goals as goal

pub returns : goal.returns
returns c = grind (arith, common_steps)
