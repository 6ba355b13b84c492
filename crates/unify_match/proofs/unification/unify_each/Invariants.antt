use Rattle.std.proofs.Common.{◌+◌}
use Rattle.spec_terms.specs.Rank.{ranks}
use Rattle.unify_match.specs.Seen.{seen}
use Rattle.unify_match.proofs.Walking.{heights_of}
use Rattle.unify_match.proofs.Unifying.{IsGoing}
use Rattle.unify_match.proofs.unification.unify_each.Given as goal

abbrev pub invariant-each : goal.invariant-each
invariant-each g l = IsGoing (g.B.Bank.trees l.bank) l.fn.binds.pairs l.binds.pairs l.made (heights_of (ranks (seen (g.B.Bank.trees l.bank) l.fn.binds.pairs)) (g.B.Bank.trees l.bank) l.lefts + 1) l.lefts l.rights l.i
