use Rattle.std.proofs.Common.{◌≡◌, nat_eq, map, drop, flat_map}
use Rattle.std.specs.List.{list_any}
use Rattle.spec_clauses.specs.Variables.{leaves}
use Rattle.term_tree.specs.Bank.{tree_at}
use Rattle.clause_diffs.proofs.Counting.{leaves_at}
use Rattle.clause_form.proofs.standing.stands_in_terms.Given as goal

abbrev pub invariant-loop-term : goal.invariant-loop-term
invariant-loop-term g l =
    list_any (nat_eq l.number) (flat_map leaves (map (tree_at (g.B.Bank.trees l.bank)) l.terms))
    ≡ list_any (nat_eq l.number) (flat_map (leaves_at (g.B.Bank.trees l.bank)) (drop l.term-index l.terms))
