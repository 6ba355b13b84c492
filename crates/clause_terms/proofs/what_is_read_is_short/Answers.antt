use Rattle.spec_well_formed.specs.Queries.{IsDeclaredFree, IsFreeOrVariable}
use Rattle.spec_well_formed.specs.Terms.{IsKnown}
use Rattle.clause_terms.proofs.Laws.{short_term, short_terms, short_pattern, short_rule}
use Rattle.clause_terms.proofs.what_is_read_is_short.Goals as goal

pub returns-clause-term : goal.returns-clause-term
returns-clause-term c = λ signature bound t below. short_term signature (IsKnown signature bound) t below

pub returns-clause-terms : goal.returns-clause-terms
returns-clause-terms c = λ signature bound ts below. short_terms signature (IsKnown signature bound) ts below

pub returns-clause-pattern : goal.returns-clause-pattern
returns-clause-pattern c = short_pattern

pub returns-clause-secret : goal.returns-clause-secret
returns-clause-secret c = λ signature t over. short_term signature (IsDeclaredFree signature) t over

pub returns-clause-event : goal.returns-clause-event
returns-clause-event c = λ signature e over. short_terms signature (IsFreeOrVariable signature) e.arguments over.arguments

pub returns-clause-rule : goal.returns-clause-rule
returns-clause-rule c = short_rule
