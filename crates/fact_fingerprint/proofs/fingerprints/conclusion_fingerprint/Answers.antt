use Rattle.std.proofs.Common.{◌∙◌, ap}
use Rattle.spec_fingerprints.specs.Fingerprints.{fingerprint_of}
use Rattle.clause_form.specs.Seen.{fact_at, IdClause}
use Rattle.fact_fingerprint.proofs.fingerprints.conclusion_fingerprint.Goals as goal

pub returns : goal.returns
returns g c = c.fingerprint_of_fact.ensures ∙ ap (λ (k : IdClause). fingerprint_of (fact_at (g.B.Bank.trees c.args.bank.now) k.conclusion)) c.clause.view_is
