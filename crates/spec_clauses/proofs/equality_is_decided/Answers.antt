use Rattle.spec_clauses.proofs.Equality.{same_symbol-decides, same_term-decides, same_terms-decides, same_fact-decides, is_among-decides}
use Rattle.spec_clauses.proofs.equality_is_decided.Goals as goal

pub returns-clause-symbols : goal.returns-clause-symbols
returns-clause-symbols c = same_symbol-decides

pub returns-clause-terms : goal.returns-clause-terms
returns-clause-terms c = same_term-decides

pub returns-clause-lists : goal.returns-clause-lists
returns-clause-lists c = same_terms-decides

pub returns-clause-facts : goal.returns-clause-facts
returns-clause-facts c = same_fact-decides

pub returns-clause-among : goal.returns-clause-among
returns-clause-among c = is_among-decides
