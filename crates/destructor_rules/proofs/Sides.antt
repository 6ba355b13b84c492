-- The sides of a rule whose variables find room behind a base.
use Rattle.std.proofs.Common.{ℕ}
use Rattle.std.specs.List.{AllByRecursion}
use Rattle.spec_trees.specs.Leaves.{leaves}
use Rattle.spec_calculus.specs.Syntax.{Rule}
use Rattle.spec_well_formed.specs.Leaves.{leaves_of}
use Rattle.spec_clauses.proofs.Lists.{all_first, all_second}
use Rattle.clause_terms.proofs.Rows.{leaves_row}
use Rattle.clause_terms.specs.Conditions.{IsRoomFor, HasRoomFrom, HasRoomForRule}

pub left_room : (base : ℕ) (rule : Rule) → HasRoomForRule base rule → AllByRecursion (HasRoomFrom base) rule.left
left_room base rule room = leaves_row (IsRoomFor base) rule.left (all_first (IsRoomFor base) (leaves_of rule.left) (leaves rule.right) room)

pub right_room : (base : ℕ) (rule : Rule) → HasRoomForRule base rule → HasRoomFrom base rule.right
right_room base rule room = all_second (IsRoomFor base) (leaves_of rule.left) (leaves rule.right) room
