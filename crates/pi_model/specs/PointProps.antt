-- A fact on the points of a configuration has one proof at most.
use Rattle.std.proofs.Props.{props}
use mathlib.Core.HLevel.{Unit-prop}
use Rattle.spec_calculus.specs.Syntax.{Protocol}
use Rattle.spec_calculus.specs.Runs.{Thread, At, Ended}
use Rattle.pi_configurations.specs.Configurations.{IsPointOf}

pub IsPointOf-prop : (P : Protocol) (thread : Thread) → IsProp (IsPointOf P thread)
IsPointOf-prop P (At point environment) = Prim.hlevel props
IsPointOf-prop P Ended = Unit-prop

pub ruleset point_props = (IsPointOf-prop, props)
