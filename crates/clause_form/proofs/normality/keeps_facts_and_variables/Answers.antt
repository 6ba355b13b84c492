use Rattle.clause_form.proofs.Told.{both_then, both_else}
use Rattle.clause_form.proofs.normality.keeps_facts_and_variables.Goals as goal

pub returns-then-keeps_its_facts : goal.returns-then-keeps_its_facts
returns-then-keeps_its_facts g c = both_then c.keeps_its_variables.result (c.keeps_its_facts.ensures.0 c.if-keeps_its_facts.true) c.keeps_its_variables.ensures

pub returns-else-keeps_its_facts : goal.returns-else-keeps_its_facts
returns-else-keeps_its_facts g c = both_else c.keeps_its_facts.result c.keeps_its_facts.ensures c.if-keeps_its_facts.false
