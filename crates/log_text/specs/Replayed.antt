-- When the steps of a run can be made once more.
use Rattle.std.specs.Prelude.{◌<◌, ◌^◌, length}
use Rattle.spec_calculus.specs.Syntax.{Protocol}
use Rattle.spec_calculus.specs.Points.{nodes}

-- steps of the protocol can be replayed: its free names and points have numbers of 32 bits
pub record CanReplay (P : Protocol) : Type 0 where
  pub frees : length P.frees < 2 ^ 32
  pub points : length (nodes P.main) < 2 ^ 32
