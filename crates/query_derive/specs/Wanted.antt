-- What contracts see of events as owned facts.
use Rattle.std.specs.Prelude.{map}
use Rattle.spec_clauses.specs.Fact.{Fact, Mev, Bad}
use Rattle.spec_terms.specs.Term.{Term}
use Rattle.query_derive.specs.Sought as sought
use Rattle.query_derive.specs.declared.wanted.Event.{Event}
use Rattle.query_derive.specs.declared.wanted.Wanted.{Wanted}

-- the fact that the event must have run
abbrev pub event_fact : Event → Fact Term
event_fact e = Mev e.event e.arguments

abbrev pub sought_of : Wanted → sought.Sought
sought_of w = record { conclusion = Bad w.bad; events = map event_fact w.events.items }
