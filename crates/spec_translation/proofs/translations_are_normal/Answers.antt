use Rattle.spec_translation.proofs.Goal.{clauses_normal, clauses_placed}
use Rattle.spec_translation.proofs.translations_are_normal.Goals as goal

pub returns-clause-normal : goal.returns-clause-normal
returns-clause-normal c = λ P q all d translated h. clauses_normal P q all translated d h

pub returns-clause-placed : goal.returns-clause-placed
returns-clause-placed c = λ P q all d translated h. clauses_placed P q all translated d h
