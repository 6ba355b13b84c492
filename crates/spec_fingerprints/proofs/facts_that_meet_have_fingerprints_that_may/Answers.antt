use Rattle.spec_fingerprints.proofs.Meeting.{meeting}
use Rattle.spec_fingerprints.proofs.facts_that_meet_have_fingerprints_that_may.Goals as goal

pub returns : goal.returns
returns c = meeting
