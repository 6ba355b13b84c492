use Rattle.spec_saturation.proofs.Common.{common_part}
use Rattle.spec_saturation.proofs.logs_have_the_common_part.Goals as goal

pub returns : goal.returns
returns c = common_part
