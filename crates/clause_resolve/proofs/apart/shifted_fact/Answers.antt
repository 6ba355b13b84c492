use Rattle.std.proofs.Common.{subst}
use Rattle.clause_form.specs.declared.facts.Fact as declared
use Rattle.clause_form.specs.Facts.{fact_of}
use Rattle.clause_resolve.specs.Low.{IsLowFact}
use Rattle.clause_resolve.proofs.Shifting.{low_fits}
use Rattle.clause_resolve.proofs.apart.shifted_fact.Goals as goal

pub shifted-requires-clause-fits : goal.shifted-requires-clause-fits
shifted-requires-clause-fits g c =
    let all = g.B.Bank.trees c.args.bank.now in
    let low = subst (λ (f : declared.Fact). IsLowFact all (fact_of f)) c.in-Att.is c.requires in
    low_fits all c.in-Att.term low.0
