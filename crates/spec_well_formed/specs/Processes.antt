-- Processes: what is bound above each point, and patterns that bind no variable twice.
use Rattle.std.specs.Prelude.{ℕ, ◌+◌, ◌<◌, ◌≤◌, max, List, ◌∷◌, ◌++◌, length, Contains}
use Rattle.std.specs.List.{AllByRecursion}
use Rattle.spec_calculus.specs.Bounds.{most_arguments}
use Rattle.spec_calculus.specs.Syntax.{Name, Made, Process, Nil, Output, Input, Parallel, Replication, New, Let, Event, Phase, Insert, Get}
use Rattle.spec_calculus.specs.Matching.{IsLinear}
use Rattle.spec_calculus.specs.Tables.{row_pattern}
use Rattle.spec_calculus.specs.Points.{point_after}
use Rattle.spec_well_formed.specs.Signature.{Signature}
use Rattle.spec_well_formed.specs.Terms.{IsKnown, IsTermBelow, IsPatternBelow, IsRowBelow, IsConditionBelow, IsExpressionBelow, IsEventOver, HasArity, bound_by, bound_by_row}

-- no pattern of the process binds a variable twice
abbrev pub HasLinearPatterns : Process → Type 0
HasLinearPatterns Nil = Unit {0}
HasLinearPatterns (Output channel message next) = HasLinearPatterns next
HasLinearPatterns (Input channel pattern next) = IsLinear pattern × HasLinearPatterns next
HasLinearPatterns (Parallel left right) = HasLinearPatterns left × HasLinearPatterns right
HasLinearPatterns (Replication copied) = HasLinearPatterns copied
HasLinearPatterns (New word next) = HasLinearPatterns next
HasLinearPatterns (Let pattern expression next otherwise) = IsLinear pattern × HasLinearPatterns next × HasLinearPatterns otherwise
HasLinearPatterns (Event performed next) = HasLinearPatterns next
HasLinearPatterns (Phase number next) = HasLinearPatterns next
HasLinearPatterns (Insert table arguments next) = HasLinearPatterns next
HasLinearPatterns (Get table patterns condition next otherwise) =
    IsLinear (row_pattern patterns) × HasLinearPatterns next × HasLinearPatterns otherwise

-- the process, which begins at the point and stands where these leaves are bound: each leaf of its terms is bound above it
-- or a declared free name, each symbol has its number of arguments, and nothing is bound twice on a way
abbrev pub IsProcessBelow : Signature → List Name → ℕ → Process → Type 0
IsProcessBelow signature bound point Nil = Unit {0}
IsProcessBelow signature bound point (Output channel message next) =
    IsTermBelow signature bound channel × IsTermBelow signature bound message × IsProcessBelow signature bound (point + 1) next
IsProcessBelow signature bound point (Input channel pattern next) =
    IsTermBelow signature bound channel × IsPatternBelow signature bound pattern
    × IsProcessBelow signature (bound_by pattern ++ bound) (point + 1) next
IsProcessBelow signature bound point (Parallel left right) =
    IsProcessBelow signature bound (point + 1) left × IsProcessBelow signature bound (point_after (point + 1) left) right
IsProcessBelow signature bound point (Replication copied) = IsProcessBelow signature bound (point + 1) copied
IsProcessBelow signature bound point (New word next) =
    (Contains bound (Made point) → ⊥) × IsProcessBelow signature (Made point ∷ bound) (point + 1) next
IsProcessBelow signature bound point (Let pattern expression next otherwise) =
    IsPatternBelow signature bound pattern × IsExpressionBelow signature bound expression
    × IsProcessBelow signature (bound_by pattern ++ bound) (point + 1) next
    × IsProcessBelow signature bound (point_after (point + 1) next) otherwise
IsProcessBelow signature bound point (Event performed next) =
    IsEventOver signature (IsKnown signature bound) performed × IsProcessBelow signature bound (point + 1) next
IsProcessBelow signature bound point (Phase number next) = IsProcessBelow signature bound (point + 1) next
IsProcessBelow signature bound point (Insert table arguments next) =
    HasArity signature.tables table (length arguments) × AllByRecursion (IsTermBelow signature bound) arguments
    × IsProcessBelow signature bound (point + 1) next
IsProcessBelow signature bound point (Get table patterns condition next otherwise) =
    HasArity signature.tables table (length patterns) × IsRowBelow signature bound patterns
    × IsConditionBelow signature (bound_by_row patterns ++ bound) condition
    × IsProcessBelow signature (bound_by_row patterns ++ bound) (point + 1) next
    × IsProcessBelow signature bound (point_after (point + 1) next) otherwise

-- each phase that the process waits for is later than the one in force there; it begins in the phase `now`
abbrev pub ArePhasesOrdered : (now : ℕ) → Process → Type 0
ArePhasesOrdered now Nil = Unit {0}
ArePhasesOrdered now (Output channel message next) = ArePhasesOrdered now next
ArePhasesOrdered now (Input channel pattern next) = ArePhasesOrdered now next
ArePhasesOrdered now (Parallel left right) = ArePhasesOrdered now left × ArePhasesOrdered now right
ArePhasesOrdered now (Replication copied) = ArePhasesOrdered now copied
ArePhasesOrdered now (New word next) = ArePhasesOrdered now next
ArePhasesOrdered now (Let pattern expression next otherwise) = ArePhasesOrdered now next × ArePhasesOrdered now otherwise
ArePhasesOrdered now (Event performed next) = ArePhasesOrdered now next
ArePhasesOrdered now (Phase number next) = (now < number) × ArePhasesOrdered number next
ArePhasesOrdered now (Insert table arguments next) = ArePhasesOrdered now next
ArePhasesOrdered now (Get table patterns condition next otherwise) = ArePhasesOrdered now next × ArePhasesOrdered now otherwise

-- each `get` of the process has no more patterns than the limit of arguments
abbrev pub AreSmallEntries : Process → Type 0
AreSmallEntries Nil = Unit {0}
AreSmallEntries (Output channel message next) = AreSmallEntries next
AreSmallEntries (Input channel pattern next) = AreSmallEntries next
AreSmallEntries (Parallel left right) = AreSmallEntries left × AreSmallEntries right
AreSmallEntries (Replication copied) = AreSmallEntries copied
AreSmallEntries (New word next) = AreSmallEntries next
AreSmallEntries (Let pattern expression next otherwise) = AreSmallEntries next × AreSmallEntries otherwise
AreSmallEntries (Event performed next) = AreSmallEntries next
AreSmallEntries (Phase number next) = AreSmallEntries next
AreSmallEntries (Insert table arguments next) = AreSmallEntries next
AreSmallEntries (Get table patterns condition next otherwise) =
    (length patterns ≤ most_arguments) × AreSmallEntries next × AreSmallEntries otherwise

-- the greatest number of points on a way down
abbrev pub height : Process → ℕ
height Nil = 1
height (Output channel message next) = 1 + height next
height (Input channel pattern next) = 1 + height next
height (Parallel left right) = 1 + max (height left) (height right)
height (Replication copied) = 1 + height copied
height (New word next) = 1 + height next
height (Let pattern expression next otherwise) = 1 + max (height next) (height otherwise)
height (Event performed next) = 1 + height next
height (Phase number next) = 1 + height next
height (Insert table arguments next) = 1 + height next
height (Get table patterns condition next otherwise) = 1 + max (height next) (height otherwise)

-- this holds of the word of each restriction
abbrev pub EachWord : (List ℕ → Type 0) → Process → Type 0
EachWord Q Nil = Unit {0}
EachWord Q (Output channel message next) = EachWord Q next
EachWord Q (Input channel pattern next) = EachWord Q next
EachWord Q (Parallel left right) = EachWord Q left × EachWord Q right
EachWord Q (Replication copied) = EachWord Q copied
EachWord Q (New word next) = Q word × EachWord Q next
EachWord Q (Let pattern expression next otherwise) = EachWord Q next × EachWord Q otherwise
EachWord Q (Event performed next) = EachWord Q next
EachWord Q (Phase number next) = EachWord Q next
EachWord Q (Insert table arguments next) = EachWord Q next
EachWord Q (Get table patterns condition next otherwise) = EachWord Q next × EachWord Q otherwise
