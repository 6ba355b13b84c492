use Rattle.std.proofs.Common.{◌+◌}
use Rattle.unify_match.proofs.Walking.{heights_of}
use Rattle.unify_match.proofs.Matchings.{IsMatching}
use Rattle.unify_match.proofs.matching.match_each.Given as goal

abbrev pub invariant-each : goal.invariant-each
invariant-each g l = IsMatching (g.B.Bank.trees l.bank) l.fn.binds.pairs l.binds.pairs (heights_of (λ x. 1) (g.B.Bank.trees l.bank) l.generals + 1) l.generals l.specials l.i
