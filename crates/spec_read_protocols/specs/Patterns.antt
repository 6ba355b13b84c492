-- The patterns of a process: those of its inputs, its `let`s and its `get`s, of which each row is one pattern.
use Rattle.std.specs.Prelude.{◌≡◌, ℕ, Some}
use Rattle.spec_calculus.specs.Syntax.{Process, Input, Let, Get, Pattern, Protocol}
use Rattle.spec_calculus.specs.Tables.{row_pattern}
use Rattle.spec_calculus.specs.Points.{numbered, nodes}

-- the pattern stands at this node of a process
abbrev pub HasPattern : Process → Pattern → Type 0
HasPattern (Input channel own next) pattern = pattern ≡ own
HasPattern (Let own expression next otherwise) pattern = pattern ≡ own
HasPattern (Get table patterns condition next otherwise) pattern = pattern ≡ row_pattern patterns
HasPattern _ pattern = ⊥

-- the pattern stands at the point of the protocol's process
pub record IsPatternAt (P : Protocol) (point : ℕ) (pattern : Pattern) : Type 0 where
  pub node : Process
  pub stands : numbered (nodes P.main) point ≡ Some node
  pub has : HasPattern node pattern
