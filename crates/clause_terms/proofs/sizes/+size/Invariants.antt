use Rattle.std.proofs.Common.{◌≡◌, take}
use Rattle.spec_trees.specs.Tree.{size}
use Rattle.spec_calculus.specs.Syntax.{Protocol}
use Rattle.spec_clauses.specs.Fact.{total}
use Rattle.spec_translation.specs.Conversion.{term_in}
use Rattle.term_tree.specs.Bank.{capped}
use Rattle.pi_tree.specs.Terms.{term_of}
use Rattle.clause_terms.specs.Scopes.{scope_at}
use Rattle.clause_terms.proofs.sizes.+size.Given as goal

abbrev pub invariant-sizes_in-loop-term : goal.invariant-sizes_in-loop-term
invariant-sizes_in-loop-term g l = (P : Protocol) → l.symbols ≡ capped (total (λ x. size (term_in P (scope_at (g.B.Bank.trees l.bank) l.scope) (term_of x))) (take l.term-index l.term-items))
