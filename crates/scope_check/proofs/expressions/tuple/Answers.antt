-- A tuple within its limits.
use Rattle.std.proofs.Common.{arith}
use Rattle.std.proofs.lemmas.Grind.{common_steps}
use Rattle.scope_check.specs.Extents.{root_of, rules_at}
use Rattle.scope_declarations.specs.Scope.{scope_of}
use Rattle.scope_check.specs.declared.expressions.Root.TheVariants.{Tuple}
use Rattle.scope_check.proofs.Extents.{rooted_counted}
use Rattle.scope_check.proofs.expressions.tuple.Goals as goal

pub returns-clause-counted : goal.returns-clause-counted
returns-clause-counted c =
    rooted_counted (rules_at (scope_of c.args.scope.now)) (root_of Tuple) c.args.parts _ c.args.inner c.extent_of.result c.combined-extent.result c.in_ok-whole.ensures.made c.requires c.extent_of.ensures
    c.combined-extent.ensures.symbols c.combined-extent.ensures.applications c.combined-extent.ensures.choices

pub returns-clause-read : goal.returns-clause-read
returns-clause-read c = grind (arith, common_steps)

pub returns-then-len-gt-MOST_ARGUMENTS-clause-read : goal.returns-then-len-gt-MOST_ARGUMENTS-clause-read
returns-then-len-gt-MOST_ARGUMENTS-clause-read c = grind (arith, common_steps)
