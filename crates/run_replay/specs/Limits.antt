-- What a replay wants of a protocol.
use Rattle.std.specs.Prelude.{◌<◌, ◌^◌, length}
use Rattle.spec_calculus.specs.Syntax.{Protocol}
use Rattle.spec_calculus.specs.Points.{nodes}

-- its free names, queries and points have numbers of 32 bits
pub record IsLimited (P : Protocol) : Type 0 where
  pub frees : length P.frees < 2 ^ 32
  pub queries : length P.queries < 2 ^ 32
  pub points : length (nodes P.main) < 2 ^ 32
