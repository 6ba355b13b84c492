use Rattle.std.proofs.lemmas.Result.{on_ok_weaker}
use Rattle.cert_form.proofs.Variables.{own_put}
use Rattle.cert_form.proofs.parts.put_own.Goals as goal

pub returns : goal.returns
returns c = on_ok_weaker c.put_number.result (λ digits. own_put c.args.number c.args.out.now.items c.put.new.out.items c.put_number.new.out.items c.requires c.in_ok-put.ensures digits) c.put_number.ensures
