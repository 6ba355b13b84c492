use Rattle.std.proofs.Common.{◌≡◌, max, take, flat_map}
use Rattle.spec_clauses.specs.Diff.{diff_variables}
use Rattle.clause_diffs.specs.Diffs.{diff_at}
use Rattle.clause_form.specs.Bounds.{above}
use Rattle.shared_cert.proofs.spelling.above_own.Given as goal

abbrev pub invariant-loop-diff : goal.invariant-loop-diff
invariant-loop-diff g l = l.found ≡ max l.least (above (flat_map (λ d. diff_variables (diff_at (g.B.Bank.trees l.bank) d)) (take l.diff-index l.diffs)))
