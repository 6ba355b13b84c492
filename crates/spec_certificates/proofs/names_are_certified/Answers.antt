use Rattle.spec_certificates.proofs.Announced.{announcing_proper, announcing_shown, announcing_runs, reversed_violated}
use Rattle.spec_certificates.proofs.Announcing.{announcing_accepted, resolvent_uncovered, event_unshown}
use Rattle.spec_certificates.proofs.names_are_certified.Goals as goal

pub returns-clause-accepted : goal.returns-clause-accepted
returns-clause-accepted c = announcing_accepted

pub returns-clause-row_missing : goal.returns-clause-row_missing
returns-clause-row_missing c = resolvent_uncovered

pub returns-clause-goal_missing : goal.returns-clause-goal_missing
returns-clause-goal_missing c = event_unshown

pub returns-clause-proper : goal.returns-clause-proper
returns-clause-proper c = announcing_proper

pub returns-clause-shown : goal.returns-clause-shown
returns-clause-shown c = announcing_shown

pub returns-clause-runs : goal.returns-clause-runs
returns-clause-runs c = announcing_runs

pub returns-clause-reversed : goal.returns-clause-reversed
returns-clause-reversed c = reversed_violated
