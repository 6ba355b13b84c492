use Rattle.std.proofs.Common.{arith}
use Rattle.process_visits.proofs.Numbered.{by_number}
use Rattle.process_visits.proofs.channels.is_public_free.Goals as goal

pub returns-in-Some-get : goal.returns-in-Some-get
returns-in-Some-get c = grind (arith, by_number)
