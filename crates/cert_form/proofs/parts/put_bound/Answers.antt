use Rattle.std.proofs.Common.{◌-◌, refl}
use Rattle.std.proofs.lemmas.Result.{on_ok_weaker}
use Rattle.spec_certificate_text.specs.Sides.{first_bound}
use Rattle.cert_form.proofs.Variables.{bound_put}
use Rattle.cert_form.proofs.parts.put_bound.Goals as goal

pub returns : goal.returns
returns c =
    on_ok_weaker c.put_number.result (λ digits. bound_put c.args.number (c.args.number - first_bound) c.args.out.now.items c.put.new.out.items c.put_number.new.out.items c.requires refl c.in_ok-put.ensures digits) c.put_number.ensures
