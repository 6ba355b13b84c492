-- What holds of all patterns of a process holds of the one that stands at a point.
use Rattle.std.proofs.Common.{◌≡◌, ℕ, zero, suc, Some, IfSome, List, sym, subst}
use Rattle.std.specs.List.{AllByRecursion}
use Rattle.spec_calculus.specs.Syntax.{Process, Nil, Output, Input, Parallel, Replication, New, Let, Event, Phase, Insert, Get, Pattern, Protocol}
use Rattle.spec_calculus.specs.Points.{numbered, nodes}
use Rattle.spec_calculus.specs.Matching.{IsLinear}
use Rattle.spec_calculus.proofs.Items.{each-append, each-slice_get}
use Rattle.spec_well_formed.specs.Processes.{HasLinearPatterns}
use Rattle.spec_read_protocols.specs.Patterns.{HasPattern, IsPatternAt}

-- each pattern of the node is linear
abbrev IsLinearAt : Process → Type 0
IsLinearAt node = (pattern : Pattern) → HasPattern node pattern → IsLinear pattern

-- those at all nodes are
all_linear : (process : Process) → HasLinearPatterns process → AllByRecursion IsLinearAt (nodes process)
all_linear Nil h = ((λ pattern has. elim has [ ]), tt)
all_linear (Output channel message next) h = ((λ pattern has. elim has [ ]), all_linear next h)
all_linear (Input channel own next) h = ((λ pattern has. subst IsLinear (sym has) h.0), all_linear next h.1)
all_linear (Parallel left right) h = ((λ pattern has. elim has [ ]), each-append IsLinearAt (nodes left) (nodes right) (all_linear left h.0) (all_linear right h.1))
all_linear (Replication copied) h = ((λ pattern has. elim has [ ]), all_linear copied h)
all_linear (New word next) h = ((λ pattern has. elim has [ ]), all_linear next h)
all_linear (Let own expression next otherwise) h = ((λ pattern has. subst IsLinear (sym has) h.0), each-append IsLinearAt (nodes next) (nodes otherwise) (all_linear next h.1) (all_linear otherwise h.2))
all_linear (Event performed next) h = ((λ pattern has. elim has [ ]), all_linear next h)
all_linear (Phase number next) h = ((λ pattern has. elim has [ ]), all_linear next h)
all_linear (Insert table arguments next) h = ((λ pattern has. elim has [ ]), all_linear next h)
all_linear (Get table patterns condition next otherwise) h = ((λ pattern has. subst IsLinear (sym has) h.0), each-append IsLinearAt (nodes next) (nodes otherwise) (all_linear next h.1) (all_linear otherwise h.2))

-- what holds of each item holds of a numbered one
pub each_numbered : {X : Type 0} (Q : X → Type 0) (xs : List X) (n : ℕ) (x : X) → AllByRecursion Q xs → numbered xs n ≡ Some x → Q x
each_numbered Q xs zero x all e = cc
each_numbered Q xs (suc k) x all e = subst (λ o. IfSome o Q) e (each-slice_get Q xs k all)

-- a pattern that stands at a point is linear
pub linear_at : (P : Protocol) (point : ℕ) (pattern : Pattern) → HasLinearPatterns P.main → IsPatternAt P point pattern → IsLinear pattern
linear_at P point pattern h at = each_numbered IsLinearAt (nodes P.main) point at.node (all_linear P.main h) at.stands pattern at.has
