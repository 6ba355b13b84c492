use Rattle.std.proofs.Common.{◌≡◌, take}
use Rattle.cert_writer.specs.Living.{live_ids}
use Rattle.cert_writer.proofs.living.live_of.Given as goal

abbrev pub invariant-each : goal.invariant-each
invariant-each l = l.live ≡ live_ids (take l.entry-index l.log)
