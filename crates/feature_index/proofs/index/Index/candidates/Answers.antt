use Rattle.feature_index.proofs.Placing.{candidates_ascend}
use Rattle.feature_index.proofs.Holding.{subsuming_found}
use Rattle.feature_index.proofs.index.Index.candidates.Goals as goal

pub returns-clause-ascending : goal.returns-clause-ascending
returns-clause-ascending c = candidates_ascend c.args.features.lanes c.self.inside.items.items c.deref-item-items.result.now c.loop-item.item-index c.loop-item.found.items c.loop-item-test.false c.deref-item-items.ensures.value c.self.invariant c.loop-item.invariant

pub returns-clause-subsuming : goal.returns-clause-subsuming
returns-clause-subsuming c = subsuming_found c.args.features.lanes c.self.inside.items.items c.deref-item-items.result.now c.args.self.now c.loop-item.item-index c.loop-item.found.items c.loop-item-test.false c.deref-item-items.ensures.value c.self.view_is c.loop-item.invariant
