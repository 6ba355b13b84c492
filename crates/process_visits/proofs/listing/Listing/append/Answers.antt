use Rattle.std.proofs.Common.{arith}
use Rattle.std.proofs.lemmas.Grind.{common_steps}
use Rattle.process_visits.proofs.listing.Listing.append.Goals as goal

pub returns-clause-sources : goal.returns-clause-sources
returns-clause-sources c = grind (arith, common_steps)
