use Rattle.std.proofs.Common.{◌≡◌, take}
use Rattle.spec_clauses.specs.Diff.{diff_size}
use Rattle.spec_clauses.specs.Fact.{total}
use Rattle.term_tree.specs.Bank.{capped}
use Rattle.clause_diffs.specs.Diffs.{diff_at}
use Rattle.clause_diffs.proofs.size.size_of_diffs.Given as goal

abbrev pub invariant-loop-diff : goal.invariant-loop-diff
invariant-loop-diff g l = l.symbols ≡ capped (total (λ d. diff_size (diff_at (g.B.Bank.trees l.bank) d)) (take l.diff-index l.diffs))
