use Rattle.std.proofs.Common.{ap, ◌∙◌, map, refl, subst, arith}
use Rattle.std.proofs.lemmas.Result.{on_ok_weaker}
use Rattle.pi_tree.specs.Protocols.{protocol_of}
use Rattle.clause_form.specs.Plain.{term_of}
use Rattle.cert_form.specs.Remaining.{HasPut, arguments_from}
use Rattle.cert_form.proofs.Terms.{argument_at, argument_put, term_put}
use Rattle.cert_form.proofs.term_text.+put_spelled.Goals as goal

pub put_spelled-requires : goal.put_spelled-requires
put_spelled-requires t c =
    let at = argument_at c.args.term.now c.in-App.symbol c.in-App.arguments c.deref-argument-items.result.now c.each.place c.argument-item.result
    c.in-App.is (ap (map term_of) c.deref-argument-items.ensures.value ∙ c.arguments.view_is) c.each-test.true c.argument-item.is in
    omega (arith, c.decreases, at)

pub each-preserved : goal.each-preserved
each-preserved t c =
    argument_put (protocol_of c.args.protocol.now) (map term_of c.deref-argument-items.result.now) c.deref-argument-items.result.now c.each.place c.argument-item.result c.put_opening.new.out.items c.each.out.items c.put_comma.new.out.items c.put_spelled.new.out.items
    refl c.each.invariant c.each-test.true c.argument-item.is (c.in_ok-put_comma-in-App.ensures) (c.in_ok-put_spelled-in-App.ensures)

pub returns-after-each : goal.returns-after-each
returns-after-each t c = on_ok_weaker c.put_closing.result (λ closed. term_put (protocol_of c.args.protocol.now) c.args.term.now c.in-App.symbol c.in-App.arguments c.deref-argument-items.result.now c.is_alone-alone.result c.each.place
    c.args.out.now.items c.put_opening.new.out.items c.each.out.items c.put_closing.new.out.items
    c.in-App.is (ap (map term_of) c.deref-argument-items.ensures.value ∙ c.arguments.view_is) c.is_alone-alone.ensures
    (c.in_ok-put_opening-in-App.ensures) (subst (λ ts. HasPut (arguments_from (protocol_of c.args.protocol.now)) c.each.place ts c.put_opening.new.out.items c.each.out.items) (ap (map term_of) c.deref-argument-items.ensures.value ∙ c.arguments.view_is) c.each.invariant) c.each-test.false closed)
    c.put_closing.ensures
