use Rattle.std.proofs.Common.{◌∙◌, ◌++◌, map, get_or, ap, sym, append-nil}
use Rattle.std.proofs.lemmas.List.{take_all}
use Rattle.spec_attack_runs.specs.Source.{source_under}
use Rattle.clause_diffs.specs.Numbers.{placed}
use Rattle.clause_sources.specs.Bound.{numbered_in_bound}
use Rattle.clause_sources.specs.Seen.{action_of}
use Rattle.clause_sources.proofs.Telling.{source_at, sources_are, one_deed, one_source}
use Rattle.clause_sources.proofs.BoundVariables.{told_same}
use Rattle.clause_sources.proofs.parts.add_sources.Goals as goal

pub each-init : goal.each-init
each-init g c = sym (append-nil c.args.sources.now)

pub each-preserved : goal.each-preserved
each-preserved g c =
    let action = action_of c.args.action.now in
    let raw = numbered_in_bound c.args.raw.now in
    let told = c.deref-part-items.result.now in
    let part = get_or told c.each.part-index 0 in
    let shared = c.in_ok-source.ensures ∙ (λ i. record { raw = c.in_ok-shared.ensures.raw i; part = part; action = c.in_ok-shared.ensures.action i }) in
    let made = shared ∙ ap (λ order. source_under (placed order) (record { raw = raw; part = part; action = action })) c.in_ok-order.ensures in
    one_source action raw c.args.sources.now c.each.sources c.push.new.self told c.each.part-index c.in_ok-source.source c.each-test.true c.each.invariant made c.in_ok-push.ensures

pub returns-clause-tells : goal.returns-clause-tells
returns-clause-tells g c =
    let action = action_of c.args.action.now in
    let raw = numbered_in_bound c.args.raw.now in
    let told = c.deref-part-items.result.now in
    let are = c.deref-part-items.ensures.value ∙ c.in_ok-told.ensures.told in
    c.each.invariant ∙ ap (λ l. c.args.sources.now ++ l) (ap (map (source_at action raw)) (take_all c.each.part-index told c.each-test.false ∙ (are ∙ told_same c.args.raw.now)) ∙ (sources_are action raw ∙ sym (one_deed action raw)))
