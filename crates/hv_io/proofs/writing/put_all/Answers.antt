use Rattle.std.proofs.Common.{rules}
use Rattle.hv_io.proofs.Appending.{appended_more}
use Rattle.hv_io.proofs.writing.put_all.Goals as goal

pub loop-done-preserved : goal.loop-done-preserved
loop-done-preserved g c = record {
  within = search rules;
  faults = search rules;
  written = appended_more _ _ _ _ _ _ c.loop-done.invariant.written c.in_ok-done.ensures.taken;
}
