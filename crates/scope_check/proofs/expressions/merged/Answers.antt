use Rattle.std.proofs.Common.{arith}
use Rattle.std.proofs.lemmas.Grind.{common_steps}
use Rattle.scope_check.proofs.expressions.merged.Goals as goal

pub returns-in-Destructor : goal.returns-in-Destructor
returns-in-Destructor c = grind (arith, common_steps)

pub returns-in_ok-terms_of-in-Tuple : goal.returns-in_ok-terms_of-in-Tuple
returns-in_ok-terms_of-in-Tuple c = grind (arith, common_steps)

pub returns-in_ok-terms_of-in-Constructor : goal.returns-in_ok-terms_of-in-Constructor
returns-in_ok-terms_of-in-Constructor c = grind (arith, common_steps)

pub returns-else-are_terms : goal.returns-else-are_terms
returns-else-are_terms c = grind (arith, common_steps)

pub returns-else-are_terms-2 : goal.returns-else-are_terms-2
returns-else-are_terms-2 c = grind (arith, common_steps)
