use Rattle.spec_calculus.proofs.Items.{each-contains}
use Rattle.spec_well_formed.specs.Limits.{IsSmallQuery}
use Rattle.spec_well_formed.specs.Queries.{HasQueryLeaves}
use Rattle.spec_well_formed.specs.Signature.{signature_of}
use Rattle.spec_well_formed.specs.WellFormed.{IsQueryOver}
use Rattle.spec_readable_verdicts.proofs.Proving.{proved_readable}
use Rattle.spec_readable_verdicts.proofs.proved_certificates_may_stand.Goals as goal

pub returns : goal.returns
returns c = λ bytes P q budget cert h asked most is.
    let limits = c.within_limits.ensures bytes P h in
    let scoped = c.well_scoped.ensures bytes P h in
    proved_readable P q (record {
      limits = limits;
      scoped = scoped;
      small = each-contains IsSmallQuery P.queries q limits.asked asked;
      over = each-contains (IsQueryOver (signature_of P)) P.queries q scoped.queries asked;
      leaves = each-contains (HasQueryLeaves P) P.queries q (c.query_leaves.ensures bytes P h) asked;
    }) budget most cert is
