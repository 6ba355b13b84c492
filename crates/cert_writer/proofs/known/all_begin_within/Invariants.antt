use Rattle.std.proofs.Common.{take}
use Rattle.std.specs.List.{AllByRecursion}
use Rattle.cert_writer.specs.Known.{BeginsWithin}
use Rattle.cert_writer.proofs.known.all_begin_within.Given as goal

abbrev pub invariant-each : goal.invariant-each
invariant-each l = AllByRecursion (BeginsWithin l.count) (take l.row-index l.rows)
