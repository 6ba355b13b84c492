use Rattle.std.proofs.Common.{take}
use Rattle.spec_terms.specs.Binding.{resolved}
use Rattle.unify_match.specs.Seen.{seen}
use Rattle.clause_diffs.proofs.Telling.{AreTold}
use Rattle.clause_diffs.proofs.tests.tells_apart.Given as goal

abbrev pub invariant-each : goal.invariant-each
invariant-each g l = AreTold (resolved (seen (g.B.Bank.trees l.bank) l.binds.pairs)) (take l.number-index l.number-items) l.taken.items
