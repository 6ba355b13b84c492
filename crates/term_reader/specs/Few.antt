-- How many names a protocol may declare, and how many arguments its names may have, for its texts to be read.
use Rattle.std.specs.Prelude.{◌≡◌, ℕ, ◌-◌, ◌^◌, ◌<◌, ◌≤◌, length, Some}
use Rattle.spec_calculus.specs.Bounds.{most_names}
use Rattle.spec_calculus.specs.Syntax.{Process, Protocol}
use Rattle.spec_calculus.specs.Points.{numbered, nodes, name_arguments}

-- points, and the arguments of the name of each, are told in 32 bits
pub record HasFewArguments (process : Process) : Type 0 where
  pub points : length (nodes process) < 2 ^ 32 - 1
  pub arguments : (point n : ℕ) → point ≤ length (nodes process) → numbered (name_arguments 0 process) point ≡ Some n → n < 2 ^ 32 - 1

-- free names, constructors, events and tables, each at most as many as all names may be
pub record HasFewNames (P : Protocol) : Type 0 where
  pub frees : length P.frees ≤ most_names
  pub constructors : length P.constructors ≤ most_names
  pub events : length P.events ≤ most_names
  pub tables : length P.tables ≤ most_names
  pub arguments : HasFewArguments P.main
