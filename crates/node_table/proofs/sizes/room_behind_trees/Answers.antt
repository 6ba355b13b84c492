use Rattle.std.proofs.Common.{◌≡◌, ◌+◌, Some, None, map, refl, subst, arith}
use Rattle.spec_trees.specs.Tree.{size}
use Rattle.spec_clauses.specs.Fact.{total}
use Rattle.clause_form.specs.Plain.{term_of}
use Rattle.node_table.specs.Room.{room_less}
use Rattle.node_table.proofs.Rooms.{one_less, too_many, room_left}
use Rattle.node_table.proofs.sizes.room_behind_trees.Goals as goal

pub returns-in-None : goal.returns-in-None
returns-in-None c =
    let ts = map term_of c.args.trees.now in
    let none_before : 0 + total size ts ≡ total size ts = omega arith in
    subst (λ n. None ≡ room_less c.args.room n) none_before
    (too_many term_of 0 c.args.room c.each.left c.args.trees.now c.each.tree-index c.tree-item.result c.each.invariant ts c.each-test.true c.tree-item.is refl c.in-None.ensures)

pub each-preserved : goal.each-preserved
each-preserved c = one_less term_of 0 c.args.room c.each.left c.args.trees.now c.each.tree-index c.tree-item.result c.each.invariant c.in-Some.less c.each-test.true c.tree-item.is c.in-Some.ensures

pub returns : goal.returns
returns c =
    let ts = map term_of c.args.trees.now in
    let none_before : 0 + total size ts ≡ total size ts = omega arith in
    subst (λ n. Some c.each.left ≡ room_less c.args.room n) none_before (room_left term_of 0 c.args.room c.each.left c.args.trees.now c.each.tree-index ts c.each.invariant c.each-test.false refl)
