use Rattle.std.proofs.Common.{◌≡◌, ◌∙◌, length, rules, arith}
use Rattle.std.proofs.lemmas.Iterator.Adapters.{YieldsList-from_vec}
use Rattle.std.proofs.lemmas.Iterator.Consumers.{YieldsList-end}
use Rattle.std.proofs.lemmas.Grind.{common_steps}
use Rattle.clause_form.proofs.Flattening.{concluding_all}
use Rattle.clause_form.proofs.flat.concluding.Goals as goal

pub returns : goal.returns
returns c =
    let counted : c.into_iter-concl-iterator.result.rest.len ≡ length c.concls.inside.items.items = search rules in
    let all = YieldsList-end (YieldsList-from_vec c.concls.inside.items.items c.into_iter-concl-iterator.ensures.into_iter_gives.0 counted) c.loop-concl.yielded c.loop-concl.concl-iterator c.loop-concl.yielded_by c.next.result c.next.new.self c.in-None.is c.next.ensures.steps in
    c.loop-concl.invariant ∙ concluding_all c.args.hyps.now c.args.diffs.now c.args.concls c.loop-concl.yielded c.concls.inside.items.items all.0 c.concls.view_is

pub loop-concl-preserved : goal.loop-concl-preserved
loop-concl-preserved c = grind (arith, common_steps)
