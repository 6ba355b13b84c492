use Rattle.std.proofs.Common.{◌∙◌, ◌++◌, ap, sym, rc_value}
use Rattle.std.specs.Prelude.{flat_map}
use Rattle.std.proofs.lemmas.List.{take_all}
use Rattle.unified_visits.proofs.Blocks.{one_more, next_block}
use Rattle.unified_visits.proofs.excluding.Excluded.copy.Goals as goal

pub returns-then-has_no_block : goal.returns-then-has_no_block
returns-then-has_no_block c = c.none.ensures ∙ sym (c.has_no_block.ensures c.if-has_no_block.true)

pub each-preserved : goal.each-preserved
each-preserved c =
    let same = c.in_ok-held.ensures.cases in
    let was = c.each.invariant in
    ap (flat_map rc_value) c.in_ok-push.ensures.items ∙ (one_more rc_value c.each.blocks.items c.in_ok-held.held
    ∙ ((λ i. was i ++ same i) ∙ sym (next_block rc_value c.deref-block-items.result.now c.each.block-index c.block-item.result c.each-test.true c.block-item.is)))

pub returns : goal.returns
returns c =
    c.each.invariant ∙ (ap (flat_map rc_value) (take_all c.each.block-index c.deref-block-items.result.now c.each-test.false)
    ∙ (ap (flat_map rc_value) c.deref-block-items.ensures.value ∙ c.self.view_is))
