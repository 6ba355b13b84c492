use Rattle.std.proofs.Common.{◌≡◌, ◌+◌, take}
use Rattle.spec_clauses.specs.Fact.{total}
use Rattle.feature_index.specs.Lanes.{told}
use Rattle.feature_index.proofs.Counting.{symbols_at}
use Rattle.feature_index.proofs.counts.symbols_of_terms.Given as goal

abbrev pub invariant-loop-term : goal.invariant-loop-term
invariant-loop-term g l = l.symbols ≡ told (l.found + total (symbols_at (g.B.Bank.trees l.bank)) (take l.term-index l.terms))
