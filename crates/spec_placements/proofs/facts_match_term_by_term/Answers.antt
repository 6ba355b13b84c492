use Rattle.spec_placements.proofs.FactMatching.{terms_match, facts_match, alike_long, fact_matched, fact_unmatched, fact_differs}
use Rattle.spec_placements.proofs.facts_match_term_by_term.Goals as goal

pub returns-clause-terms : goal.returns-clause-terms
returns-clause-terms c = λ s g h same. (terms_match s g h, facts_match s g h same)

pub returns-clause-number : goal.returns-clause-number
returns-clause-number c = alike_long

pub returns-clause-matched : goal.returns-clause-matched
returns-clause-matched c = fact_matched

pub returns-clause-unmatched : goal.returns-clause-unmatched
returns-clause-unmatched c = fact_unmatched

pub returns-clause-different : goal.returns-clause-different
returns-clause-different c = fact_differs
