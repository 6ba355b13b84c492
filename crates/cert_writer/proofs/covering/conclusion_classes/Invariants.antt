use Rattle.std.proofs.Common.{map, take}
use Rattle.fact_fingerprint.specs.Seen.{fingerprint_seen}
use Rattle.cert_writer.specs.Classed.{AreClassed}
use Rattle.cert_writer.proofs.covering.conclusion_classes.Given as goal

abbrev pub invariant-each : goal.invariant-each
invariant-each l = AreClassed (map fingerprint_seen (take l.place l.prints)) l.classes
