use Rattle.std.proofs.Common.{◌≡◌}
use Rattle.spec_terms.specs.Binding.{resolved}
use Rattle.spec_terms.specs.Rank.{ranks}
use Rattle.unify_match.specs.Seen.{seen}
use Rattle.clause_diffs.proofs.tests.variable_under.Given as goal

abbrev pub invariant-chain : goal.invariant-chain
invariant-chain g l = resolved (seen (g.B.Bank.trees l.bank) l.binds.pairs) l.at ≡ resolved (seen (g.B.Bank.trees l.bank) l.binds.pairs) l.fn.number

abbrev pub decreases-chain : goal.decreases-chain
decreases-chain g l = ranks (seen (g.B.Bank.trees l.bank) l.binds.pairs) l.at
