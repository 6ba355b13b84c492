use Rattle.std.proofs.Common.{subst}
use Rattle.term_tree.specs.Bank.{AreShared}
use Rattle.node_table.proofs.Entering.{id_number}
use Rattle.node_table.proofs.table.NodeTable.number_of.Goals as goal

pub returns : goal.returns
returns c = id_number c.args.self.now c.args.id (subst AreShared c.self.view_is c.equal_trees_have_equal_ids.ensures) c.requires
