use Rattle.std.proofs.Common.{◌∙◌, [], map, get_or, ap}
use Rattle.fact_classes.proofs.Classing.{empty_more}
use Rattle.fact_classes.proofs.classes.Classes.reach.Goals as goal

pub each-preserved : goal.each-preserved
each-preserved c = record {
  lists = λ k. ap (λ ls. get_or (map (λ v. v.items) ls) k []) c.in_ok-push.ensures.items ∙ (empty_more c.each.self.lists.items c.new.result k c.new.ensures.items ∙ c.each.invariant.lists k);
  rest = c.each.invariant.rest;
}
