use Rattle.std.proofs.Common.{arith}
use Rattle.std.proofs.lemmas.Grind.{common_steps}
use Rattle.hv_io.proofs.mem_files.MemFilesFiles.load.Goals as goal

pub returns-clause-due : goal.returns-clause-due
returns-clause-due c = grind (arith, common_steps)

pub returns-in_default-clause-due : goal.returns-in_default-clause-due
returns-in_default-clause-due c = grind (arith, common_steps)

pub returns-clause-failed : goal.returns-clause-failed
returns-clause-failed c = grind (arith, common_steps)

pub returns-clause-faults_rise : goal.returns-clause-faults_rise
returns-clause-faults_rise c = grind (arith, common_steps)
