-- What contracts see of a configuration.
use Rattle.std.specs.Prelude.{◌<◌, ◌≤◌, length}
use Rattle.std.specs.List.{AllByRecursion}
use Rattle.spec_calculus.specs.Syntax.{Protocol}
use Rattle.spec_calculus.specs.Points.{nodes}
use Rattle.spec_calculus.specs.Runs as calculus
use Rattle.pi_configurations.specs.declared.configurations.Conf.{Conf}

abbrev pub configuration_of : Conf → calculus.Configuration
configuration_of c = record { threads = c.threads; known = c.known; events = c.events; next = c.next; phase = c.phase; entries = c.entries }

-- a thread that has not ended stands at a point of the protocol
abbrev pub IsPointOf : Protocol → calculus.Thread → Type 0
IsPointOf P (calculus.At point environment) = (0 < point) × (point ≤ length (nodes P.main))
IsPointOf P calculus.Ended = Unit {0}

-- a configuration of the protocol: its threads stand at points of it, and each name was made by a step
pub record IsConfigurationOf (P : Protocol) (c : Conf) : Type 0 where
  pub points : AllByRecursion (IsPointOf P) c.threads
  pub names : c.next ≤ c.steps
