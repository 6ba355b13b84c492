use Rattle.std.proofs.Common.{sym}
use Rattle.clause_form.proofs.repeats.is_among_placed.Goals as goal

pub returns-then-is_at : goal.returns-then-is_at
returns-then-is_at g c = sym (c.is_at.ensures c.if-is_at.true)

pub returns-in-None : goal.returns-in-None
returns-in-None g c = sym (c.requires.absent c.in-None.is)
