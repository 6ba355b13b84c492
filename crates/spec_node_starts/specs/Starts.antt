-- From where a walk through a node may begin. A walk completes the nodes of a table in their order where, whenever it comes to a node,
-- those before it that the node stands over are complete, or are completed next, in their order. The start of a node is the least number
-- of nodes that have to be complete before a walk through it, so that it completes those behind them in order, up to the node itself.
use Rattle.std.specs.Prelude.{ℕ, ◌==◌, nat_le, if◌then◌else◌, List, [], ◌∷◌, unwrap_or}
use Rattle.spec_calculus.specs.Points.{numbered}

-- the start of the node of that number, from 1; 0 where there is none
abbrev pub start_at : List ℕ → ℕ → ℕ
start_at starts n = unwrap_or (numbered starts n) 0

-- a walk through a row of numbers: so many nodes have to be complete before it, and so many are behind it
pub record Row : Type 0 where
  pub least : ℕ
  pub last : ℕ

-- the walk goes on through one more
abbrev pub through : List ℕ → Row → ℕ → Row
through starts row n =
    if nat_le n row.last then row
    else (if nat_le (start_at starts n) row.last then record { least = row.least; last = n } else record { least = start_at starts n; last = n })

abbrev pub through_row : List ℕ → Row → List ℕ → Row
through_row starts row [] = row
through_row starts row (n ∷ ns) = through_row starts (through starts row n) ns

-- the start of a node behind so many, by the walk through those that it stands over: where the last of all before it isn't the last that
-- is completed there, all before it have to be complete
abbrev pub start_behind : ℕ → Row → ℕ
start_behind nodes row = if row.last == nodes then row.least else nodes

abbrev pub start_of : List ℕ → ℕ → List ℕ → ℕ
start_of starts nodes ns = start_behind nodes (through_row starts record { least = 0; last = 0 } ns)
