use Rattle.term_store.proofs.Distinct.{AreShared-well}
use Rattle.term_store.proofs.shared_bank.SharedBank.equal_trees_have_equal_ids.Goals as goal

pub returns : goal.returns
returns c = AreShared-well c.self.inside.shapes.keys c.self.inside.measures.items c.args.self.now c.self.view_is c.self.invariant.0
