use Rattle.std.proofs.Common.{◌≡◌, map, take}
use Rattle.spec_trees.specs.Tree.{bind}
use Rattle.cert_form.specs.Moving.{moved}
use Rattle.clause_diffs.specs.Plain.{term_of}
use Rattle.cert_form.proofs.moving.+moved.Given as goal

abbrev pub invariant-moved_trees-each : goal.invariant-moved_trees-each
invariant-moved_trees-each l = map term_of l.items.items ≡ map (bind (moved l.to.first l.to.next)) (map term_of (take l.tree-index l.tree-items))
