use Rattle.std.proofs.Common.{◌≡◌, map, take}
use Rattle.term_tree.specs.Bank.{tree_at}
use Rattle.clause_diffs.specs.Plain.{term_of}
use Rattle.clause_form.proofs.copies.read_terms.Given as goal

abbrev pub invariant-loop-id : goal.invariant-loop-id
invariant-loop-id g l = map term_of l.items.items ≡ map (tree_at (g.B.Bank.trees l.bank)) (take l.id-index l.ids)
