use Rattle.std.proofs.Common.{arith, ap, map}
use Rattle.std.proofs.lemmas.Grind.{common_steps}
use Rattle.query_derive.specs.Wanted.{sought_of}
use Rattle.query_derive.proofs.wanted.all_wanted.Goals as goal

pub each-preserved : goal.each-preserved
each-preserved c = grind (arith, common_steps)

pub returns-after-each : goal.returns-after-each
returns-after-each c = grind (arith, common_steps)

pub each-init : goal.each-init
each-init c = ap (map sought_of) c.in_ok-all-in-Corr.ensures.items
