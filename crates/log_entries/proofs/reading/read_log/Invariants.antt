use Rattle.std.proofs.Common.{◌≡◌, map, take}
use Rattle.log_entries.specs.Plain.{plain_entry}
use Rattle.log_entries.proofs.reading.read_log.Given as goal

abbrev pub invariant-each : goal.invariant-each
invariant-each g l = l.items.items ≡ map (plain_entry (g.B.Bank.trees l.bank)) (take l.entry-index l.log)
