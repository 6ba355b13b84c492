use Rattle.std.proofs.Common.{◌<◌, length, ap, arith, rules}
use Rattle.term_tree.proofs.Roots.{IsPlace-tree, items-length}
use Rattle.term_store.specs.Shapes.{root_of}
use Rattle.term_store.proofs.Adding.{shape_at}
use Rattle.term_store.proofs.Shapes.{IsNodeOf-root}
use Rattle.term_store.proofs.shared_bank.SharedBankBank.node.Goals as goal

within : (c : goal.After-as_slice) → c.args.id.index < length c.as_slice.result.now
within c = omega (arith, items-length root_of c.self.inside.shapes.keys c.args.self.now c.self.view_is, ap length c.as_slice.ensures.keys, c.requires)

pub bounds-as_slice-id : goal.bounds-as_slice-id
bounds-as_slice-id c = within c

pub offset_bounds-as_slice-id : goal.offset_bounds-as_slice-id
offset_bounds-as_slice-id c = let w = within c in search rules

pub returns : goal.returns
returns c =
    let shape = c.index-as_slice-id.result in
    let place = shape_at c.self.inside.shapes.keys c.self.inside.measures.items c.as_slice.result.now c.args.self.now c.args.id shape c.self.view_is c.self.invariant.0 c.requires c.as_slice.ensures.keys c.index-as_slice-id.is in
    IsNodeOf-root c.args.self.now c.node.result (root_of shape) _ c.node.ensures (IsPlace-tree c.args.self.now c.args.id (root_of shape) place) place.args
