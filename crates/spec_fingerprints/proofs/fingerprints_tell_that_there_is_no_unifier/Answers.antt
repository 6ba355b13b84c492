use Rattle.spec_fingerprints.proofs.Meeting.{facts_apart, hypothesis_apart, solved_first_apart, unsolved_first_apart}
use Rattle.spec_fingerprints.proofs.fingerprints_tell_that_there_is_no_unifier.Goals as goal

pub returns-clause-facts : goal.returns-clause-facts
returns-clause-facts c = facts_apart

pub returns-clause-hypothesis : goal.returns-clause-hypothesis
returns-clause-hypothesis c = hypothesis_apart

pub returns-clause-solved_first : goal.returns-clause-solved_first
returns-clause-solved_first c = solved_first_apart

pub returns-clause-unsolved_first : goal.returns-clause-unsolved_first
returns-clause-unsolved_first c = unsolved_first_apart
