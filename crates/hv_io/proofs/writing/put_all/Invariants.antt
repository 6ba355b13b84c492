use Rattle.std.proofs.Common.{length, ◌-◌, ◌≡◌, ◌≤◌, take}
use Rattle.hv_io.specs.Sink.{appended}
use Rattle.hv_io.proofs.writing.put_all.Given as goal

-- the bytes that were taken so far were appended
abbrev pub invariant-loop-done : goal.invariant-loop-done
invariant-loop-done g l = record {
  within : l.done ≤ length l.bytes;
  faults : g.S.Sink.faults l.fn.sink ≤ g.S.Sink.faults l.sink;
  written : g.S.Sink.written l.sink ≡ appended (g.S.Sink.written l.fn.sink) (take l.done l.bytes);
}

abbrev pub decreases-loop-done : goal.decreases-loop-done
decreases-loop-done g l = length l.bytes - l.done
