use Rattle.std.proofs.Common.{◌≡◌, map, take}
use Rattle.pi_tree.specs.Events.{event_of}
use Rattle.pi_tree.specs.Protocols.{protocol_of}
use Rattle.query_derive.specs.Sought.{sought_for}
use Rattle.query_derive.specs.Wanted.{sought_of}
use Rattle.query_derive.proofs.wanted.all_wanted.Given as goal

abbrev pub invariant-each : goal.invariant-each
invariant-each l = map sought_of l.all.items ≡ map (sought_for (protocol_of l.protocol) (event_of l.left)) (take l.alternative-index l.alternative-items)
