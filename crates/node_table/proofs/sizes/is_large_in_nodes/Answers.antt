use Rattle.std.proofs.Common.{◌≡◌, ◌∙◌, ◌<◌, ◌≤◌, map, length, get_or, ap, sym, subst, rc_value, arith}
use Rattle.std.proofs.lemmas.List.{length-map, get_or-map, take_all}
use Rattle.spec_terms.specs.Term.{Term}
use Rattle.spec_clauses.specs.Fact.{Clause}
use Rattle.spec_node_tables.specs.Large.{pieces}
use Rattle.node_table.specs.Room.{room_behind_next}
use Rattle.node_table.proofs.Rooms.{AreCounted, none_counted, counted_on, next_large, fits}
use Rattle.node_table.proofs.sizes.is_large_in_nodes.Goals as goal

pub each-init : goal.each-init
each-init c = none_counted (map rc_value c.args.clauses.now) _ (omega arith)

pub returns-in-None : goal.returns-in-None
returns-in-None c =
    let held = c.args.clauses.now in
    let i = c.each.clause-index in
    let x = c.clause-item.result in
    let within : i < length (map rc_value held) = omega (arith, c.each-test.true, length-map held rc_value) in
    let at : rc_value x ≡ get_or (map rc_value held) i (rc_value x) = ap rc_value c.clause-item.is ∙ sym (get_or-map rc_value held i x (rc_value x) c.each-test.true) in
    next_large (map rc_value held) i c.each.left (rc_value x) c.each.invariant within at (c.in-None.ensures ∙ ap (λ (d : Clause Term). room_behind_next c.each.left (pieces d)) c.deref.ensures)

pub each-preserved : goal.each-preserved
each-preserved c =
    let held = c.args.clauses.now in
    let i = c.each.clause-index in
    let x = c.clause-item.result in
    let within : i < length (map rc_value held) = omega (arith, c.each-test.true, length-map held rc_value) in
    let at : rc_value x ≡ get_or (map rc_value held) i (rc_value x) = ap rc_value c.clause-item.is ∙ sym (get_or-map rc_value held i x (rc_value x) c.each-test.true) in
    counted_on (map rc_value held) i (rc_value x) c.each.left c.in-Some.less c.each.invariant within at (c.in-Some.ensures ∙ ap (λ (d : Clause Term). room_behind_next c.each.left (pieces d)) c.deref.ensures)

pub returns : goal.returns
returns c =
    let held = c.args.clauses.now in
    let past : length (map rc_value held) ≤ c.each.clause-index = omega (arith, c.each-test.false, length-map held rc_value) in
    fits (map rc_value held) c.each.left (subst (λ cs. AreCounted cs c.each.left) (take_all c.each.clause-index (map rc_value held) past) c.each.invariant)
