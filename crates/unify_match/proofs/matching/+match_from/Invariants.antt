use Rattle.term_tree.specs.Bank.{tree_at}
use Rattle.unify_match.proofs.Matchings.{IsMatching, levels}
use Rattle.unify_match.proofs.matching.+match_from.Given as goal

abbrev pub decreases-match_from : goal.decreases-match_from
decreases-match_from g l = levels (tree_at (g.B.Bank.trees l.bank.now) l.general)

abbrev pub invariant-each : goal.invariant-each
invariant-each g l = IsMatching (g.B.Bank.trees l.bank) l.fn.binds.pairs l.binds.pairs (levels (tree_at (g.B.Bank.trees l.bank) l.fn.general)) l.xs l.ys l.i
