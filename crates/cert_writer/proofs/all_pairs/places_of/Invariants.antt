use Rattle.std.proofs.Common.{◌≡◌, take}
use Rattle.cert_writer.specs.Unsolved.{some_places}
use Rattle.cert_writer.proofs.all_pairs.places_of.Given as goal

abbrev pub invariant-each : goal.invariant-each
invariant-each l = l.places.items ≡ some_places 0 (take l.place l.prints)
