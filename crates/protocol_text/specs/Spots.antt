-- What contracts see of the points of a process that are listed: their nodes, and the phases in force there.
use Rattle.std.specs.Prelude.{ℕ, List, [], ◌∷◌, ◌++◌}
use Rattle.spec_calculus.specs.Syntax as calculus
use Rattle.spec_calculus.specs.Syntax.{Nil, Output, Input, Parallel, Replication, New, Let, Event, Phase, Insert, Get}
use Rattle.pi_tree.specs.Processes.{process_of}
use Rattle.protocol_text.specs.declared.walk.Spot.{Spot}

-- the process that stands at the point
abbrev pub node_of : Spot → calculus.Process
node_of spot = process_of spot.node.now

-- the phase in force there
abbrev pub phase_of : Spot → ℕ
phase_of spot = spot.place.phase

-- the phase in force at each node of a process in pre-order, where it begins in that phase: one that waits for a phase is in force below it
abbrev pub phases_in : ℕ → calculus.Process → List ℕ
phases_in phase Nil = phase ∷ []
phases_in phase (Output channel message next) = phase ∷ phases_in phase next
phases_in phase (Input channel pattern next) = phase ∷ phases_in phase next
phases_in phase (Parallel left right) = phase ∷ (phases_in phase left ++ phases_in phase right)
phases_in phase (Replication copied) = phase ∷ phases_in phase copied
phases_in phase (New word next) = phase ∷ phases_in phase next
phases_in phase (Let pattern expression next otherwise) = phase ∷ (phases_in phase next ++ phases_in phase otherwise)
phases_in phase (Event performed next) = phase ∷ phases_in phase next
phases_in phase (Phase number next) = phase ∷ phases_in number next
phases_in phase (Insert table arguments next) = phase ∷ phases_in phase next
phases_in phase (Get table patterns condition next otherwise) = phase ∷ (phases_in phase next ++ phases_in phase otherwise)
