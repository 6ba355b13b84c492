-- the constraints so far are those of the first blocks
use Rattle.std.proofs.Common.{◌≡◌, take, rc_value}
use Rattle.std.specs.Prelude.{flat_map}
use Rattle.unified_visits.proofs.excluding.Excluded.listed.Given as goal

abbrev pub invariant-each : goal.invariant-each
invariant-each l = l.all ≡ flat_map rc_value (take l.block-index l.block-items)
