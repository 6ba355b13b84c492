use Rattle.spec_calculus.proofs.Items.{each-contains}
use Rattle.spec_well_formed.specs.Limits.{IsSmallQuery}
use Rattle.spec_read_protocols.proofs.translations_of_read_protocols.Goals as goal

pub returns : goal.returns
returns c = λ bytes P q all d h asked is has.
    let within = c.within_limits.ensures bytes P h in
    c.translations_are_within_the_limit.ensures.all P q all d within (each-contains IsSmallQuery P.queries q within.asked asked) is has
