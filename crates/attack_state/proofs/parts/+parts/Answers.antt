use Rattle.std.proofs.Common.{◌≡◌, ◌+◌, ℕ, ◌∙◌, ◌++◌, Bool, [], ◌∷◌, length, map, drop, ap, subst, arith, length-append}
use Rattle.spec_trees.specs.Tree.{trees}
use Rattle.spec_attack_runs.specs.Compiling.{parts_of, row_parts_of}
use Rattle.pi_tree.specs.Protocols.{protocol_of}
use Rattle.pi_tree.specs.Values.{value_of}
use Rattle.attack_state.specs.Parts.{part_step, Adds}
use Rattle.attack_state.proofs.Parting.{row_more, row_longer, row_seen, row_ahead, row_full, row_own_full}
use Rattle.attack_state.proofs.parts.+parts.Goals as goal

pub add_row_parts-returns-then-len-ge-MOST_STEPS-clause-adds : goal.add_row_parts-returns-then-len-ge-MOST_STEPS-clause-adds
add_row_parts-returns-then-len-ge-MOST_STEPS-clause-adds t c =
    let P = protocol_of c.args.protocol.now in
    let place = c.args.place in
    let first = c.args.first in
    let old = c.args.parts.now.items in
    let now = c.each.parts.items in
    let items = c.deref-value-items.result.now in
    let i = c.each.index in
    let all = ap (map value_of) c.deref-value-items.ensures.value ∙ c.values.view_is in
    let ys = row_parts_of P place 1 (first + length old + 1) (trees c.args.values.now) in
    let so_far = row_seen P place (first + length old + 1) (map part_step now ++ row_parts_of P place (i + 1) (first + length now + 1) (trees (map value_of (drop i items)))) (map part_step old) (map value_of items) c.args.values.now c.each.invariant.so_far all in
    row_full P place (first + length now + 1) (i + 1) (value_of c.value-item.result) (trees (map value_of (drop (i + 1) items))) ys old now (omega arith)
    (row_ahead P place items i (i + 1) (first + length now + 1) c.value-item.result (map part_step now) (map part_step old ++ ys) c.value-item.is c.each-test.true so_far)

pub add_row_parts-returns-then-not-branch-clause-adds : goal.add_row_parts-returns-then-not-branch-clause-adds
add_row_parts-returns-then-not-branch-clause-adds t c =
    let P = protocol_of c.args.protocol.now in
    let place = c.args.place in
    let first = c.args.first in
    let old = c.args.parts.now.items in
    let now = c.each.parts.items in
    let pushed = c.push.new.self.items in
    let new = c.add_parts.new.parts.items in
    let long : c.len-in-each.result ≡ length pushed = omega (arith, c.len-in-each.ensures, c.push.new.self.ok.0) in
    let items = c.deref-value-items.result.now in
    let i = c.each.index in
    let v = value_of c.value-item.result in
    let all = ap (map value_of) c.deref-value-items.ensures.value ∙ c.values.view_is in
    let ys = row_parts_of P place 1 (first + length old + 1) (trees c.args.values.now) in
    let so_far = row_seen P place (first + length old + 1) (map part_step now ++ row_parts_of P place (i + 1) (first + length now + 1) (trees (map value_of (drop i items)))) (map part_step old) (map value_of items) c.args.values.now c.each.invariant.so_far all in
    row_own_full P place first (i + 1) v (trees (map value_of (drop (i + 1) items))) ys old now pushed c.in_ok-push.ensures.items
    (subst (λ (b : Bool). Adds (parts_of P (first + length pushed) (first + length pushed + 1) v) pushed new b) c.if-not-branch.true
    (subst (λ (n : ℕ). Adds (parts_of P (first + n) (first + length pushed + 1) v) pushed new c.in_ok-add_parts.field-0) long c.in_ok-add_parts.ensures.adds))
    (row_ahead P place items i (i + 1) (first + length now + 1) c.value-item.result (map part_step now) (map part_step old ++ ys) c.value-item.is c.each-test.true so_far)

pub add_row_parts-each-preserved : goal.add_row_parts-each-preserved
add_row_parts-each-preserved t c =
    let P = protocol_of c.args.protocol.now in
    let place = c.args.place in
    let first = c.args.first in
    let old = c.args.parts.now.items in
    let now = c.each.parts.items in
    let pushed = c.push.new.self.items in
    let new = c.add_parts.new.parts.items in
    let long : c.len-in-each.result ≡ length pushed = omega (arith, c.len-in-each.ensures, c.push.new.self.ok.0) in
    let items = c.deref-value-items.result.now in
    let i = c.each.index in
    let v = value_of c.value-item.result in
    let ys = row_parts_of P place 1 (first + length old + 1) (trees (map value_of items)) in
    let own = parts_of P (first + length pushed) (first + length pushed + 1) v in
    let told = subst (λ (n : ℕ). Adds (parts_of P (first + n) (first + length pushed + 1) v) pushed new c.in_ok-add_parts.field-0) long c.in_ok-add_parts.ensures.adds in
    let added = subst (λ (b : Bool). Adds own pushed new b) c.if-not-branch.false told in
    let longer = row_longer P place own pushed new added in
    let rest = trees (map value_of (drop (i + 1) items)) in
    record {
      few = c.in_ok-add_parts.ensures.few;
      counted = omega (arith, longer, ap length c.in_ok-push.ensures.items ∙ length-append now ((place, i + 1) ∷ []));
      so_far = row_more P place first (i + 1) v rest now pushed new c.in_ok-push.ensures.items added
          ∙ row_ahead P place items i (i + 1) (first + length now + 1) c.value-item.result (map part_step now) (map part_step old ++ ys) c.value-item.is c.each-test.true c.each.invariant.so_far;
    }
