use Rattle.std.proofs.Common.{◌≡◌, ◌∙◌, Some, None, ap, map, subst}
use Rattle.term_tree.specs.Bank.{symbol_of}
use Rattle.clause_form.specs.Plain.{term_of}
use Rattle.node_table.specs.Room.{room_less}
use Rattle.node_table.proofs.Rooms.{one_less, too_many, room_left, node_size}
use Rattle.node_table.proofs.sizes.+room_behind_tree.Goals as goal

pub returns-in-None : goal.returns-in-None
returns-in-None t c =
    subst (λ n. None ≡ room_less c.args.room n) (node_size (symbol_of c.in-App.field-0) c.in-App.arguments (term_of c.args.tree.now) (ap term_of c.in-App.is))
    (too_many term_of 1 c.args.room c.each.left c.deref-argument-items.result.now c.each.argument-index c.argument-item.result c.each.invariant c.in-App.arguments c.each-test.true c.argument-item.is
    (ap (map term_of) c.deref-argument-items.ensures.value ∙ c.arguments.view_is) c.in-None.ensures)

pub each-preserved : goal.each-preserved
each-preserved t c =
    one_less term_of 1 c.args.room c.each.left c.deref-argument-items.result.now c.each.argument-index c.argument-item.result c.each.invariant c.in-Some.less c.each-test.true c.argument-item.is c.in-Some.ensures

pub returns-after-each : goal.returns-after-each
returns-after-each t c =
    subst (λ n. Some c.each.left ≡ room_less c.args.room n) (node_size (symbol_of c.in-App.field-0) c.in-App.arguments (term_of c.args.tree.now) (ap term_of c.in-App.is))
    (room_left term_of 1 c.args.room c.each.left c.deref-argument-items.result.now c.each.argument-index c.in-App.arguments c.each.invariant c.each-test.false
    (ap (map term_of) c.deref-argument-items.ensures.value ∙ c.arguments.view_is))
