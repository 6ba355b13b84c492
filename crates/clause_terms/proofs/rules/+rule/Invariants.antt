use Rattle.std.proofs.Common.{◌+◌, ◌*◌}
use Rattle.spec_trees.specs.Tree.{depth, depths, trees}
use Rattle.spec_translation.specs.Conversion.{rule_term}
use Rattle.pi_tree.specs.Terms.{term_of}
use Rattle.pi_tree.specs.Protocols.{protocol_of}
use Rattle.clause_terms.proofs.Making.{AreMade}
use Rattle.clause_terms.proofs.rules.+rule.Given as goal

abbrev pub decreases-rule_term_grown : goal.decreases-rule_term_grown
decreases-rule_term_grown g l = 2 * depth (term_of l.term.now)

abbrev pub decreases-rule_terms_grown : goal.decreases-rule_terms_grown
decreases-rule_terms_grown g l = 2 * depths (trees l.terms.now) + 1

abbrev pub invariant-rule_terms_grown-loop-term : goal.invariant-rule_terms_grown-loop-term
invariant-rule_terms_grown-loop-term g l = AreMade (λ x. rule_term (protocol_of l.protocol) l.base (term_of x)) (g.B.Bank.trees l.fn.bank) (g.B.Bank.trees l.bank) l.items.items l.term-items l.term-index
