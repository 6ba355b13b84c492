use Rattle.std.proofs.Common.{◌+◌, map, drop, subst, ap, ◌∙◌}
use Rattle.pi_tree.specs.Protocols.{protocol_of}
use Rattle.spec_choice_walks.specs.Instructions.{choices_by}
use Rattle.term_values.specs.Instructions.{instruction_of}
use Rattle.visit_choices.proofs.Counting.{IsProduct, more_product}
use Rattle.visit_choices.proofs.Walking.{first_left}
use Rattle.visit_choices.proofs.choices.count_choices.Goals as goal

pub each-preserved : goal.each-preserved
each-preserved c =
    let P = protocol_of c.args.protocol.now in
    let all = c.args.instructions.now in
    let i = c.each.instruction-index in
    let later = map instruction_of (drop (i + 1) all) in
    let whole = choices_by P (map instruction_of all) in
    let first = ap (choices_by P) (first_left all i c.instruction-item.result c.each-test.true c.instruction-item.is) ∙ c.choices_at.ensures later in
    more_product 18446744073709551615 c.choices_at.result (choices_by P later) whole c.each.count c.saturating_mul-count.result (subst (λ k. IsProduct 18446744073709551615 k whole c.each.count) first c.each.invariant) c.saturating_mul-count.ensures
