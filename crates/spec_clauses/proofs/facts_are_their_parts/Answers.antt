use Rattle.spec_clauses.proofs.Parts.{made_of-parts, head_of-map, terms_of-map, same_head-decides, same_fact-parts, fact_size-parts}
use Rattle.spec_clauses.proofs.facts_are_their_parts.Goals as goal

pub returns-clause-made : goal.returns-clause-made
returns-clause-made g c = made_of-parts

pub returns-clause-head : goal.returns-clause-head
returns-clause-head g c = head_of-map

pub returns-clause-terms : goal.returns-clause-terms
returns-clause-terms g c = terms_of-map

pub returns-clause-heads : goal.returns-clause-heads
returns-clause-heads g c = same_head-decides

pub returns-clause-same : goal.returns-clause-same
returns-clause-same g c = same_fact-parts

pub returns-clause-size : goal.returns-clause-size
returns-clause-size g c = fact_size-parts
