use Rattle.spec_clauses.proofs.NormKeeps.{own_norm}
use Rattle.spec_placements.proofs.Linked.{rules_link, linked_first, linked_next, linked_loose, linked_diffs, linked_both}
use Rattle.spec_placements.proofs.normal_clauses_are_linked.Goals as goal

pub returns-clause-normal : goal.returns-clause-normal
returns-clause-normal c = λ d normal. rules_link d ((own_norm d).0 normal.own)

pub returns-clause-own : goal.returns-clause-own
returns-clause-own c = λ d own. rules_link d ((own_norm d).0 own)

pub returns-clause-conclusion : goal.returns-clause-conclusion
returns-clause-conclusion c = linked_first

pub returns-clause-placed : goal.returns-clause-placed
returns-clause-placed c = linked_next

pub returns-clause-both : goal.returns-clause-both
returns-clause-both c = λ bs loose diffs facts. (λ a. (linked_loose bs loose diffs facts a, linked_diffs bs loose diffs facts a), λ a. linked_both bs loose diffs facts a.0 a.1)
