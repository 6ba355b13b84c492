-- the blocks so far are those of the list
use Rattle.std.proofs.Common.{◌≡◌, take, rc_value}
use Rattle.std.specs.Prelude.{flat_map}
use Rattle.unified_visits.proofs.excluding.Excluded.copy.Given as goal

abbrev pub invariant-each : goal.invariant-each
invariant-each l = flat_map rc_value l.blocks.items ≡ flat_map rc_value (take l.block-index l.block-items)
