use Rattle.spec_clauses.specs.Selection.{is_solved}
use Rattle.spec_clauses.proofs.Inclusion.{Has-filter, Has-filter_source}
use Rattle.spec_derivations.proofs.Suffices.{solved_clauses_suffice}
use Rattle.spec_derivations.proofs.solved_clauses_suffice.Goals as goal

pub returns-clause-suffice : goal.returns-clause-suffice
returns-clause-suffice c = solved_clauses_suffice c.resting_clauses_suffice.ensures.suffice

pub returns-clause-solved : goal.returns-clause-solved
returns-clause-solved c = λ clauses d. (Has-filter_source (λ e. is_solved e.hypotheses) clauses d, λ h. Has-filter (λ e. is_solved e.hypotheses) clauses d h.0 h.1)
