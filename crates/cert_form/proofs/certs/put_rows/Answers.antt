use Rattle.std.proofs.Common.{ap, ◌∙◌, map, arith}
use Rattle.std.proofs.lemmas.Grind.{common_steps}
use Rattle.cert_form.proofs.Lines.{row_put}
use Rattle.cert_form.proofs.certs.put_rows.Goals as goal

pub each-preserved : goal.each-preserved
each-preserved c =
    row_put (λ row. row.items) c.args.letter c.args.rows.now c.deref-row-items.result.now c.each.row-index c.row-item.result c.deref.result.now
    c.args.out.now.items c.each.out.items c.put.new.out.items c.put_numbers.new.out.items c.put-in-each.new.out.items
    (ap (map (λ row. row.items)) c.deref-row-items.ensures.value ∙ c.rows.view_is) c.each.invariant c.each-test.true c.row-item.is
    c.deref.ensures.value c.in_ok-put.ensures c.in_ok-put_numbers.ensures c.in_ok-put-2.ensures

pub returns : goal.returns
returns c = grind (arith, common_steps)
