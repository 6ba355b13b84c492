-- How much of a process is left to be visited.
use Rattle.std.proofs.Common.{ℕ, ◌+◌}
use Rattle.spec_calculus.specs.Syntax.{Process, Nil, Output, Input, Parallel, Replication, New, Let, Event, Phase, Insert, Get}

abbrev pub weight : Process → ℕ
weight Nil = 1
weight (Output channel message next) = weight next + 1
weight (Input channel pattern next) = weight next + 1
weight (Parallel left right) = weight left + weight right + 1
weight (Replication copied) = weight copied + 1
weight (New word next) = weight next + 1
weight (Let pattern expression next otherwise) = weight next + weight otherwise + 1
weight (Event performed next) = weight next + 1
weight (Phase number next) = weight next + 1
weight (Insert table arguments next) = weight next + 1
weight (Get table patterns condition next otherwise) = weight next + weight otherwise + 1
