use Rattle.std.proofs.Common.{◌≡◌, ◌∙◌, List, map, ap, sym, subst, arith}
use Rattle.std.specs.List.{AllByRecursion}
use Rattle.spec_calculus.specs.Syntax.{EventTerm}
use Rattle.pi_tree.specs.Events.{event_of}
use Rattle.pi_tree.specs.Protocols.{protocol_of}
use Rattle.spec_translation.specs.Goal.{required}
use Rattle.spec_well_formed.specs.Limits.{IsSmallEvent}
use Rattle.query_derive.proofs.Converting.{all_at, made_all}
use Rattle.std.proofs.lemmas.Grind.{common_steps}
use Rattle.query_derive.specs.Wanted.{event_fact}
use Rattle.query_derive.proofs.wanted.events_wanted.Goals as goal

pub event_wanted-requires : goal.event_wanted-requires
event_wanted-requires c =
    let are : map event_of c.deref-event-items.result.now ≡ c.args.events.now = ap (map event_of) c.deref-event-items.ensures.value ∙ c.events.view_is in
    all_at IsSmallEvent event_of c.deref-event-items.result.now c.loop-event.event-index c.event-item.result (subst (λ (es : List EventTerm). AllByRecursion IsSmallEvent es) (sym are) c.requires) c.loop-event-test.true c.event-item.is

pub returns : goal.returns
returns c =
    let are : map event_of c.deref-event-items.result.now ≡ c.args.events.now = ap (map event_of) c.deref-event-items.ensures.value ∙ c.events.view_is in
    made_all (required (protocol_of c.args.protocol.now)) event_of c.deref-event-items.result.now c.loop-event.event-index _ c.loop-event-test.false c.loop-event.invariant ∙ ap (map (required (protocol_of c.args.protocol.now))) are

pub loop-event-preserved : goal.loop-event-preserved
loop-event-preserved c = grind (arith, common_steps)

pub loop-event-init : goal.loop-event-init
loop-event-init c = ap (map event_fact) c.in_ok-made.ensures.items
