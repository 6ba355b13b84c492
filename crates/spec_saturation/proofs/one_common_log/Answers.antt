use Rattle.spec_saturation.proofs.Common.{one_common_log}
use Rattle.spec_saturation.proofs.one_common_log.Goals as goal

pub returns : goal.returns
returns c = one_common_log
