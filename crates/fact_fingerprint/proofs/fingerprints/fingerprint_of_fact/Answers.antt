use Rattle.std.proofs.Common.{◌∙◌, ap}
use Rattle.spec_fingerprints.specs.Fingerprints.{number_of_head, positions}
use Rattle.clause_form.specs.Facts.{fact_of}
use Rattle.fact_fingerprint.specs.declared.fingerprints.Fingerprint.{Fingerprint}
use Rattle.fact_fingerprint.proofs.Telling.{made}
use Rattle.fact_fingerprint.proofs.fingerprints.fingerprint_of_fact.Goals as goal

pub returns : goal.returns
unfolding positions
returns g c =
    let ranges = c.ranges_among-ranges.result in
    let made_so : Fingerprint = record { head = c.head_number-head.result; least = ranges.least; most = ranges.most } in
    made (g.B.Bank.trees c.args.bank.now) (fact_of c.args.fact.now) made_so c.as_slice.result.now (c.head_number-head.ensures ∙ ap number_of_head c.head.ensures) (c.as_slice.ensures ∙ c.terms-parts.ensures) c.ranges_among-ranges.ensures.least c.ranges_among-ranges.ensures.most
