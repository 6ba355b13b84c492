use Rattle.spec_calculus.proofs.Phases.{phases_are_counted, open_at_their_end, violated_among_them}
use Rattle.spec_calculus.proofs.phases_are_told.Goals as goal

pub returns-clause-counted : goal.returns-clause-counted
returns-clause-counted c = phases_are_counted

pub returns-clause-still_open : goal.returns-clause-still_open
returns-clause-still_open c = open_at_their_end

pub returns-clause-violated : goal.returns-clause-violated
returns-clause-violated c = violated_among_them
