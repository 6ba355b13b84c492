use Rattle.std.proofs.Common.{subst, sym}
use Rattle.spec_clauses.specs.Inclusion.{Has}
use Rattle.spec_derivations.specs.Choice.{resting_of}
use Rattle.spec_derivations.proofs.Suffices.{resting_clauses_suffice}
use Rattle.spec_derivations.proofs.Choosing.{has_resting, resting_has}
use Rattle.spec_derivations.proofs.resting_clauses_suffice.Goals as goal

pub returns-clause-suffice : goal.returns-clause-suffice
returns-clause-suffice c = resting_clauses_suffice c.norm_keeps_instances.ensures c.resolution_keeps_chosen_instances.ensures c.subsumption_keeps_instances.ensures.subsumption

pub returns-clause-resting : goal.returns-clause-resting
returns-clause-resting c = λ placed d. (has_resting placed d, λ h. subst (Has (resting_of placed)) (sym h.3) (resting_has placed h.0 h.1 h.2))
