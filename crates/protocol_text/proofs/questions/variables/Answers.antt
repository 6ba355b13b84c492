use Rattle.protocol_text.proofs.Proper.{one_more_variable}
use Rattle.protocol_text.proofs.questions.variables.Goals as goal

pub loop-index-preserved : goal.loop-index-preserved
loop-index-preserved c = one_more_variable c.loop-index.items.items c.push.new.self.items c.loop-index.index c.in_ok-push.ensures.items c.loop-index.invariant
