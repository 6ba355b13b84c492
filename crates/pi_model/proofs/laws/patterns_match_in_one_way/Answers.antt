use Rattle.spec_calculus.proofs.Patterns.{matched-filled, filled-unique}
use Rattle.pi_model.proofs.laws.patterns_match_in_one_way.Goals as goal

pub returns-clause-matched : goal.returns-clause-matched
returns-clause-matched c = matched-filled

pub returns-clause-unique : goal.returns-clause-unique
returns-clause-unique c = filled-unique
