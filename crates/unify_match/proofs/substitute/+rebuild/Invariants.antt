use Rattle.spec_terms.specs.Rank.{height}
use Rattle.term_tree.specs.Bank.{tree_at}
use Rattle.unify_match.specs.Substitution.{subst_of, rank_of, arguments}
use Rattle.unify_match.proofs.Substituting.{IsRebuilding}
use Rattle.unify_match.proofs.substitute.+rebuild.Given as goal

abbrev pub decreases-rebuild : goal.decreases-rebuild
decreases-rebuild g l = height (rank_of (g.B.Bank.trees l.bank.now) l.change) (tree_at (g.B.Bank.trees l.bank.now) l.id)

abbrev pub invariant-each : goal.invariant-each
invariant-each g l = IsRebuilding (subst_of (g.B.Bank.trees l.fn.bank) l.fn.change) (g.B.Bank.trees l.fn.bank) (g.B.Bank.trees l.bank) (arguments (tree_at (g.B.Bank.trees l.fn.bank) l.end)) l.fn.stack.items l.stack.items l.i l.kept
