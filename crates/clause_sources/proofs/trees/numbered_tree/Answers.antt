use Rattle.std.proofs.Common.{map, ap}
use Rattle.spec_trees.specs.Tree.{bind}
use Rattle.clause_sources.specs.Places.{by_numbers}
use Rattle.clause_diffs.specs.Plain.{term_of}
use Rattle.clause_sources.proofs.Numbering.{only_added}
use Rattle.clause_sources.proofs.trees.numbered_tree.Goals as goal

pub returns : goal.returns
returns c =
    only_added c.add_numbered.new.made.items c.pop.new.self.items c.in-Some.only (map term_of c.new-made.result.items) (bind (by_numbers c.args.numbers.now) (term_of c.args.tree.now))
    (ap (map term_of) c.new-made.ensures.items) c.in-Some.ensures.items c.in_ok-add_numbered.ensures
