use Rattle.std.proofs.Common.{◌∙◌, map, ap, rc_value, arith}
use Rattle.std.proofs.lemmas.Grind.{common_steps}
use Rattle.std.proofs.lemmas.List.{take_all}
use Rattle.cert_form.proofs.Held.{shared_next}
use Rattle.cert_form.proofs.reading_out.share_clauses.Goals as goal

pub each-preserved : goal.each-preserved
each-preserved c =
    shared_next rc_value c.deref-clause-items.result.now c.each.clause-index c.clause-item.result c.each.items.items c.push.new.self.items c.in_ok-held.held c.each.invariant c.each-test.true c.clause-item.is c.in_ok-push.ensures.items c.in_ok-held.ensures.cases

pub returns : goal.returns
returns c =
    c.each.invariant ∙ (ap (map rc_value) (take_all c.each.clause-index c.deref-clause-items.result.now c.each-test.false)
    ∙ (ap (map rc_value) c.deref-clause-items.ensures.value ∙ c.clauses.view_is))

pub each-init : goal.each-init
each-init c = grind (arith, common_steps)
