use Rattle.std.proofs.Common.{◌≡◌, map, drop}
use Rattle.spec_clauses.specs.Fact.{same_terms}
use Rattle.term_tree.specs.Bank.{tree_at}
use Rattle.clause_form.proofs.same.are_same_terms.Given as goal

abbrev pub invariant-each : goal.invariant-each
invariant-each g l = same_terms (map (tree_at (g.B.Bank.trees l.bank)) l.lefts) (map (tree_at (g.B.Bank.trees l.bank)) l.rights) ≡ same_terms (map (tree_at (g.B.Bank.trees l.bank)) (drop l.i l.lefts)) (map (tree_at (g.B.Bank.trees l.bank)) (drop l.i l.rights))
