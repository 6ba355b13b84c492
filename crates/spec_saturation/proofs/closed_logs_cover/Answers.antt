use Rattle.spec_saturation.proofs.Pairs.{closed_covers}
use Rattle.spec_saturation.proofs.closed_logs_cover.Goals as goal

pub returns : goal.returns
returns c = λ given budget log live normal. closed_covers given normal budget log live
