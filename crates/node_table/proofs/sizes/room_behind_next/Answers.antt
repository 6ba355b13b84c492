use Rattle.std.proofs.Common.{◌<◌, sym, arith}
use Rattle.std.proofs.lemmas.Bool.Decides.{nat_tests}
use Rattle.spec_node_tables.specs.Large.{pieces}
use Rattle.node_table.proofs.Rooms.{pieces_leave_less, next_leaves}
use Rattle.node_table.proofs.sizes.room_behind_next.Goals as goal

pub overflow_sub-result : goal.overflow_sub-result
overflow_sub-result c = pieces_leave_less (pieces c.args.clause.now) c.min-least.result c.in-Some.less (sym c.in-Some.ensures)

pub returns-in-Some : goal.returns-in-Some
returns-in-Some c =
    let some : 0 < c.in-Some.less = grind (arith, nat_tests, c.in-Some.less-test) in
    next_leaves (pieces c.args.clause.now) c.args.room c.min-least.result c.in-Some.less c.min-least.ensures c.in-Some.ensures some
