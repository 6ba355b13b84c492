-- Numbers of nodes to which a walk comes next.
use Rattle.std.proofs.Common.{◌≡◌, ℕ, ◌<◌, ◌≤◌, true, length, arith}
use Rattle.std.proofs.lemmas.Bool.Decides.{nat_tests}
use Rattle.spec_node_counts.specs.Nodes.{Table}
use Rattle.spec_node_counts.specs.Counts.{Counted, is_next}

pub next_some : (T : Table) (w : Counted) (n : ℕ) → is_next T w n ≡ true → 0 < n
next_some T w n e = grind (arith, nat_tests)

pub next_within : (T : Table) (w : Counted) (n : ℕ) → is_next T w n ≡ true → n ≤ length T.terms
next_within T w n e = grind (arith, nat_tests)

pub ruleset symbols = (next_some, next_within)
