use Rattle.std.proofs.Common.{Option, subst}
use Rattle.command_words.specs.Request.{Request}
use Rattle.command_words.proofs.Complete.{WithinBounds, request_within}
use Rattle.command_words.proofs.laws.asked_budgets.Goals as goal

pub returns : goal.returns
returns c = λ words file budget format asked. (subst (λ (r : Option Request). WithinBounds r) asked (request_within words)).0
