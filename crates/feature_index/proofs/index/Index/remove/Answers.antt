use Rattle.std.proofs.Common.{◌≡◌, ◌∙◌, true, sym}
use Rattle.feature_index.specs.Listed.{is_listed}
use Rattle.feature_index.proofs.Placing.{taken_items, taken_ascend, without_none}
use Rattle.feature_index.proofs.index.Index.remove.Goals as goal

pub invariant_of-self : goal.invariant_of-self
invariant_of-self c =
    let there : is_listed c.args.entry c.args.self.now ≡ true = sym c.place_of-place.ensures.standing ∙ (sym c.is_at.ensures ∙ c.if-is_at.true) in
    taken_ascend c.self.inside.items.items c.remove.new.self.items c.args.self.now c.place_of-place.result c.args.entry c.self.view_is c.place_of-place.ensures.place c.remove.ensures.items c.self.invariant there

pub returns-then-is_at-clause-left : goal.returns-then-is_at-clause-left
returns-then-is_at-clause-left c =
    let there : is_listed c.args.entry c.args.self.now ≡ true = sym c.place_of-place.ensures.standing ∙ (sym c.is_at.ensures ∙ c.if-is_at.true) in
    taken_items c.self.inside.items.items c.remove.new.self.items c.args.self.now c.place_of-place.result c.args.entry c.self.view_is c.place_of-place.ensures.place c.remove.ensures.items c.self.invariant there

pub returns-else-is_at-clause-left : goal.returns-else-is_at-clause-left
returns-else-is_at-clause-left c = without_none c.args.entry c.args.self.now (sym c.place_of-place.ensures.standing ∙ (sym c.is_at.ensures ∙ c.if-is_at.false))
