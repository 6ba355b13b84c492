use Rattle.std.proofs.Common.{◌+◌, ◌*◌}
use Rattle.spec_trees.specs.Tree.{depth, depths, trees}
use Rattle.spec_translation.specs.Conversion.{term_in}
use Rattle.pi_tree.specs.Terms.{term_of}
use Rattle.pi_tree.specs.Protocols.{protocol_of}
use Rattle.clause_terms.specs.Scopes.{scope_at}
use Rattle.clause_terms.proofs.Making.{AreMade}
use Rattle.clause_terms.proofs.in_scope.+term.Given as goal

abbrev pub decreases-term_grown : goal.decreases-term_grown
decreases-term_grown g l = 2 * depth (term_of l.term.now)

abbrev pub decreases-terms_grown : goal.decreases-terms_grown
decreases-terms_grown g l = 2 * depths (trees l.terms.now) + 1

abbrev pub invariant-terms_grown-loop-term : goal.invariant-terms_grown-loop-term
invariant-terms_grown-loop-term g l = AreMade (λ x. term_in (protocol_of l.protocol) (scope_at (g.B.Bank.trees l.fn.bank) l.scope) (term_of x)) (g.B.Bank.trees l.fn.bank) (g.B.Bank.trees l.bank) l.items.items l.term-items l.term-index
