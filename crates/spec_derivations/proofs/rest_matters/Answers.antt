use Rattle.spec_derivations.proofs.Resting.{four_normal, four_right, reads_wrong, four_closed, four_derive, resting_lose}
use Rattle.spec_derivations.proofs.rest_matters.Goals as goal

pub returns-clause-normal : goal.returns-clause-normal
returns-clause-normal c = four_normal

pub returns-clause-right : goal.returns-clause-right
returns-clause-right c = four_right

pub returns-clause-wrong : goal.returns-clause-wrong
returns-clause-wrong c = reads_wrong

pub returns-clause-closed : goal.returns-clause-closed
returns-clause-closed c = four_closed

pub returns-clause-derived : goal.returns-clause-derived
returns-clause-derived c = four_derive

pub returns-clause-lost : goal.returns-clause-lost
returns-clause-lost c = resting_lose
