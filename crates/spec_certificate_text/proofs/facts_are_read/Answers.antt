use Rattle.spec_certificate_text.proofs.FactsThere.{hypothesis_there, conclusion_there}
use Rattle.spec_certificate_text.proofs.FactsFound.{hypothesis_found, conclusion_found}
use Rattle.spec_certificate_text.proofs.facts_are_read.Goals as goal

pub returns-clause-hypotheses : goal.returns-clause-hypotheses
returns-clause-hypotheses c = λ P bytes at place f rest e. let there = hypothesis_there P bytes at f place rest e in (there.text, there.is)

pub returns-clause-conclusions : goal.returns-clause-conclusions
returns-clause-conclusions c = λ P bytes at place f rest e. let there = conclusion_there P bytes at f place rest e in (there.text, there.is)

pub returns-clause-hypothesis_texts : goal.returns-clause-hypothesis_texts
returns-clause-hypothesis_texts c = λ P f rest at names is. let found = hypothesis_found P names f rest at is in (found.place, found.is)

pub returns-clause-conclusion_texts : goal.returns-clause-conclusion_texts
returns-clause-conclusion_texts c = λ P f rest at names is. let found = conclusion_found P names f rest at is in (found.place, found.is)
