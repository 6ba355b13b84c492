use Rattle.std.specs.Option.{unwrap_or}
use Rattle.log_entries.specs.Ends.{ends_of}
use Rattle.log_entries.proofs.Chaining.{AreCollected}
use Rattle.log_entries.proofs.ends.ending.Given as goal

abbrev pub invariant-each : goal.invariant-each
invariant-each l = AreCollected (ends_of l.walk.items.items) l.fn.id l.numbers.items l.next

abbrev pub decreases-each : goal.decreases-each
decreases-each l = unwrap_or l.next 0
