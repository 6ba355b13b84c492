use Rattle.std.proofs.Common.{◌≡◌, ◌++◌, map, take, flat_map}
use Rattle.spec_trees.specs.Tree.{depth}
use Rattle.term_tree.specs.Bank.{tree_at}
use Rattle.clause_form.specs.Seen.{fact_at, AreFactsIn}
use Rattle.clause_form.proofs.Flattening.{parts_at}
use Rattle.clause_form.proofs.flat.+add_parts.Given as goal

abbrev pub decreases-add_parts : goal.decreases-add_parts
decreases-add_parts g l = depth (tree_at (g.B.Bank.trees l.bank.now) l.id)

abbrev pub invariant-each : goal.invariant-each
invariant-each g l = record {
  known : AreFactsIn (g.B.Bank.trees l.bank) l.facts;
  parts : map (fact_at (g.B.Bank.trees l.bank)) l.facts ≡ map (fact_at (g.B.Bank.trees l.bank)) l.fn.facts ++ flat_map (parts_at (g.B.Bank.trees l.bank) l.phase) (take l.argument-index l.arguments);
}
