use Rattle.std.proofs.Common.{◌≡◌, map, drop}
use Rattle.spec_node_tables.specs.Large.{diff_piece}
use Rattle.node_table.specs.Room.{room_behind_pieces}
use Rattle.node_table.proofs.sizes.room_behind_diffs.Given as goal

-- what is left behind the constraints that are left is what is left behind all
abbrev pub invariant-each : goal.invariant-each
invariant-each l = room_behind_pieces l.left (map diff_piece (drop l.diff-index l.diff-items)) ≡ room_behind_pieces l.room (map diff_piece l.diff-items)
