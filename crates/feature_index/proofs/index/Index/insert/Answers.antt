use Rattle.std.proofs.Common.{◌≡◌, rules}
use Rattle.std.specs.Prelude.{insert}
use Rattle.feature_index.specs.declared.index.Item.{Item}
use Rattle.feature_index.proofs.Placing.{put_items, put_ascend}
use Rattle.feature_index.proofs.index.Index.insert.Goals as goal

pub invariant_of-self-2 : goal.invariant_of-self-2
invariant_of-self-2 c =
    let new : Item = record { entry = c.args.entry; features = c.args.features } in
    let done : c.insert.new.self.items ≡ insert c.self.inside.items.items c.place_of-place.result new = search rules in
    put_ascend c.self.inside.items.items c.insert.new.self.items c.args.self.now c.place_of-place.result new c.self.view_is c.place_of-place.ensures.place done c.self.invariant c.requires

pub returns-clause-ok : goal.returns-clause-ok
returns-clause-ok c =
    let new : Item = record { entry = c.args.entry; features = c.args.features } in
    let done : c.insert.new.self.items ≡ insert c.self.inside.items.items c.place_of-place.result new = search rules in
    put_items c.self.inside.items.items c.insert.new.self.items c.args.self.now c.place_of-place.result new c.self.view_is c.place_of-place.ensures.place done
