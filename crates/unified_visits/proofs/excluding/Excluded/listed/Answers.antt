use Rattle.std.proofs.Common.{◌∙◌, ap, rc_value, arith}
use Rattle.std.proofs.lemmas.Grind.{common_steps}
use Rattle.std.specs.Prelude.{flat_map}
use Rattle.std.proofs.lemmas.List.{take_all}
use Rattle.unified_visits.proofs.excluding.Excluded.listed.Goals as goal

pub returns : goal.returns
returns c =
    c.each.invariant ∙ (ap (flat_map rc_value) (take_all c.each.block-index c.deref-block-items.result.now c.each-test.false)
    ∙ (ap (flat_map rc_value) c.deref-block-items.ensures.value ∙ c.self.view_is))

pub each-preserved : goal.each-preserved
each-preserved c = grind (arith, common_steps)
