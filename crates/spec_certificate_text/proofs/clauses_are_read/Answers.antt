use Rattle.spec_certificate_text.proofs.ClausesRead.{clause_there, clause_found}
use Rattle.spec_certificate_text.proofs.clauses_are_read.Goals as goal

pub returns-clause-there : goal.returns-clause-there
returns-clause-there c = λ P bytes at place d rest e. let there = clause_there P bytes at d place rest e in (there.text, there.is)

pub returns-clause-texts : goal.returns-clause-texts
returns-clause-texts c = λ P d rest at names is. let found = clause_found P names d rest at is in (found.place, found.is)
