use Rattle.cert_form.proofs.NodeLines.{known_at, argument_put, arguments_put}
use Rattle.cert_form.proofs.nodes.put_arguments.Goals as goal

pub number_of-requires : goal.number_of-requires
number_of-requires c = known_at c.args.table.now c.args.ids.now c.each.id-index record { index = 0 } c.requires c.each-test.true

pub each-preserved : goal.each-preserved
each-preserved c =
    argument_put c.args.table.now c.args.ids.now c.each.id-index record { index = 0 } c.number_of.result c.args.out.now.items c.each.out.items c.put.new.out.items c.put_number.new.out.items
    c.each.invariant c.each-test.true c.number_of.ensures c.in_ok-put.ensures c.in_ok-put_number.ensures

pub returns : goal.returns
returns c = arguments_put c.args.table.now c.args.ids.now c.each.id-index c.args.out.now.items c.each.out.items c.each.invariant c.each-test.false
