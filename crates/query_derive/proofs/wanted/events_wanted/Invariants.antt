use Rattle.std.proofs.Common.{◌≡◌, map, take}
use Rattle.spec_translation.specs.Goal.{required}
use Rattle.pi_tree.specs.Events.{event_of}
use Rattle.pi_tree.specs.Protocols.{protocol_of}
use Rattle.query_derive.specs.Wanted.{event_fact}
use Rattle.query_derive.proofs.wanted.events_wanted.Given as goal

abbrev pub invariant-loop-event : goal.invariant-loop-event
invariant-loop-event l = map event_fact l.made.items ≡ map (λ e. required (protocol_of l.protocol) (event_of e)) (take l.event-index l.event-items)
