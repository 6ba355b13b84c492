-- One query more, and the queries within their limit.
use Rattle.std.proofs.Common.{arith}
use Rattle.std.proofs.lemmas.Grind.{common_steps}
use Rattle.scope_check.proofs.queries.queries.Goals as goal

pub loop-declaration-preserved : goal.loop-declaration-preserved
loop-declaration-preserved c = grind (arith, common_steps)

pub returns-in_err-read : goal.returns-in_err-read
returns-in_err-read c = grind (arith, common_steps)

pub returns-then-len-ge-MOST_QUERIES : goal.returns-then-len-ge-MOST_QUERIES
returns-then-len-ge-MOST_QUERIES c = grind (arith, common_steps)

pub returns : goal.returns
returns c = grind (arith, common_steps)

pub loop-declaration-init : goal.loop-declaration-init
loop-declaration-init c = grind (arith, common_steps)
