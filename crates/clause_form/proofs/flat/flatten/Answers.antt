use Rattle.clause_form.proofs.Flattening.{flattened}
use Rattle.clause_form.proofs.flat.flatten.Goals as goal

pub returns : goal.returns
returns g c =
    flattened (g.B.Bank.trees c.args.bank.now) c.args.clause.now c.clause.inside.hyps c.clause.inside.diffs _ c.in_ok-hyps.hyps c.in_ok-concls.concls c.concluding.result
    c.clause.view_is c.requires.diffs c.in_ok-hyps.ensures c.in_ok-concls.ensures c.concluding.ensures
