use Rattle.std.proofs.Common.{◌≡◌, map, take}
use Rattle.spec_trees.specs.Tree.{bind}
use Rattle.clause_sources.specs.Places.{by_numbers}
use Rattle.clause_diffs.specs.Plain.{term_of}
use Rattle.clause_sources.proofs.trees.+add_numbered.Given as goal

abbrev pub invariant-each : goal.invariant-each
invariant-each l = map term_of l.items.items ≡ map (λ t. bind (by_numbers l.numbers) (term_of t)) (take l.argument-index l.argument-items)
