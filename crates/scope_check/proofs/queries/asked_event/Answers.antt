-- An event within its limit, or not.
use Rattle.std.proofs.Common.{arith}
use Rattle.std.proofs.lemmas.Grind.{common_steps}
use Rattle.scope_check.proofs.queries.asked_event.Goals as goal

pub returns-then-symbols-gt-MOST_WRITTEN_SYMBOLS-clause-read : goal.returns-then-symbols-gt-MOST_WRITTEN_SYMBOLS-clause-read
returns-then-symbols-gt-MOST_WRITTEN_SYMBOLS-clause-read c = grind (arith, common_steps)

pub returns-clause-read : goal.returns-clause-read
returns-clause-read c = grind (arith, common_steps)
