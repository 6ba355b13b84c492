-- the steps so far are read, and reading goes on
use Rattle.std.proofs.Common.{◌≡◌, ◌-◌, length}
use Rattle.fact_reader.specs.Reads.{left_of}
use Rattle.cert_text.proofs.Running.{Running}
use Rattle.cert_text.proofs.shared_claims.run.Given as goal

abbrev pub invariant-loop-round : goal.invariant-loop-round
invariant-loop-round l = record {
  read : Running (left_of l.fn.cursor) l.fn.cursor.at (length l.fn.cursor.bytes.now - l.round) (left_of l.cursor) l.cursor.at;
  same : l.cursor.bytes.now ≡ l.fn.cursor.bytes.now;
}
