use Rattle.spec_clauses.proofs.DiffNumbering.{numbered-numbered, numbered-under, met-numbered, equality-numbered, never-numbered, size-numbered, own-numbered}
use Rattle.spec_clauses.proofs.constraints_are_numbered.Goals as goal

pub returns-clause-once : goal.returns-clause-once
returns-clause-once c = numbered-numbered

pub returns-clause-under : goal.returns-clause-under
returns-clause-under c = numbered-under

pub returns-clause-met : goal.returns-clause-met
returns-clause-met c = met-numbered

pub returns-clause-equal : goal.returns-clause-equal
returns-clause-equal c = equality-numbered

pub returns-clause-never : goal.returns-clause-never
returns-clause-never c = never-numbered

pub returns-clause-size : goal.returns-clause-size
returns-clause-size c = size-numbered

pub returns-clause-variables : goal.returns-clause-variables
returns-clause-variables c = own-numbered
