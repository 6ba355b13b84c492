use Rattle.std.proofs.Common.{arith}
use Rattle.std.proofs.lemmas.Grind.{common_steps}
use Rattle.hv_io.proofs.mem_sink.MemSinkSink.write.Goals as goal

pub returns-then-is_err-clause-room_stays : goal.returns-then-is_err-clause-room_stays
returns-then-is_err-clause-room_stays c = grind (arith, common_steps)

pub returns-then-is_err-clause-failed : goal.returns-then-is_err-clause-failed
returns-then-is_err-clause-failed c = grind (arith, common_steps)

pub returns-then-is_err-clause-same_most : goal.returns-then-is_err-clause-same_most
returns-then-is_err-clause-same_most c = grind (arith, common_steps)

pub returns-then-is_err-clause-faults_rise : goal.returns-then-is_err-clause-faults_rise
returns-then-is_err-clause-faults_rise c = grind (arith, common_steps)
