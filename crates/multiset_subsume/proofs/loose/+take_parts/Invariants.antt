use Rattle.std.proofs.Common.{◌≡◌, map, take, flat_map, length}
use Rattle.spec_trees.specs.Tree.{depth}
use Rattle.term_tree.specs.Bank.{tree_at}
use Rattle.clause_form.specs.Facts.{fact_of}
use Rattle.clause_form.proofs.Flattening.{parts_at}
use Rattle.spec_placements.specs.LooseParts.{Removes}
use Rattle.fact_placing.specs.Boards.{facts_at}
use Rattle.multiset_subsume.proofs.loose.+take_parts.Given as goal

abbrev pub decreases-take_parts : goal.decreases-take_parts
decreases-take_parts g l = depth (tree_at (g.B.Bank.trees l.bank.now) l.term)

abbrev pub invariant-each : goal.invariant-each
invariant-each g l = record {
  flags : length l.taken ≡ length (facts_at (g.B.Bank.trees l.bank) (map fact_of l.hyps));
  removes : Removes (facts_at (g.B.Bank.trees l.bank) (map fact_of l.hyps)) l.fn.taken l.taken (flat_map (parts_at (g.B.Bank.trees l.bank) l.phase) (take l.argument-index l.arguments));
}
