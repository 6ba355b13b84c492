-- What contracts see of places.
use Rattle.std.specs.Prelude.{◌≡◌, ℕ, ◌+◌, ◌≤◌, length}
use Rattle.spec_calculus.specs.Syntax as calculus
use Rattle.spec_calculus.specs.Bounds.{most_points}
use Rattle.spec_calculus.specs.Points.{nodes}
use Rattle.pi_tree.specs.Protocols.{protocol_of}
use Rattle.unified_visits.specs.declared.place.Place.{Place}

-- the protocol of a place
abbrev pub protocol_at : Place → calculus.Protocol
protocol_at place = protocol_of place.protocol.now

-- the place is the point of that number of the protocol
pub record IsAt (P : calculus.Protocol) (number : ℕ) (place : Place) : Type 0 where
  pub protocol : protocol_at place ≡ P
  pub point : place.point ≡ number

-- the points of the process, which begins at the one of that number, are within the limit
abbrev pub HasFewPoints : ℕ → calculus.Process → Type 0
HasFewPoints point process = point + length (nodes process) ≤ most_points + 1
