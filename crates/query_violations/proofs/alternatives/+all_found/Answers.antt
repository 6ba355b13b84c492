use Rattle.std.proofs.Common.{rules, map, arith}
use Rattle.pi_tree.specs.Events.{event_of}
use Rattle.term_values.specs.Bound.{bound_of}
use Rattle.query_violations.specs.Alternatives.{found_of}
use Rattle.pi_configurations.specs.Happenings.{performed_of}
use Rattle.query_violations.proofs.Searching.{search-step, fewer-missing, of_search}
use Rattle.query_violations.proofs.Picking.{beside-consistent}
use Rattle.std.proofs.lemmas.Grind.{common_steps}
use Rattle.query_violations.proofs.alternatives.+all_found.Goals as goal

pub loop-happened-init : goal.loop-happened-init
loop-happened-init t c =
    search-step (found_of c.args.found.now) c.args.events.now c.in-Some.index (event_of c.event_at-event.result.now) (bound_of c.args.bound.now) (map performed_of c.args.performed.now)
    c.requires c.event_at-event.ensures c.in-Some.ensures.missing

pub all_found-requires : goal.all_found-requires
all_found-requires t c =
    let fewer = fewer-missing (found_of c.args.found.now) c.args.events.now c.in-Some.index (event_of c.event_at-event.result.now) c.event_at-event.ensures c.in-Some.ensures.missing in (
      omega (arith, c.decreases, fewer),
      beside-consistent (bound_of c.args.bound.now) (bound_of c.beside-extended.result) (event_of c.event_at-event.result.now) (performed_of c.happened-item.result)
          c.beside-extended.ensures c.requires (search rules),
    )

pub loop-happened-preserved : goal.loop-happened-preserved
loop-happened-preserved t c = grind (arith, common_steps, of_search)

pub returns-then-all_found : goal.returns-then-all_found
returns-then-all_found t c = grind (arith, common_steps, of_search)

pub returns : goal.returns
returns t c = grind (arith, common_steps, of_search)

pub returns-in_default : goal.returns-in_default
returns-in_default t c = grind (arith, common_steps, of_search)
