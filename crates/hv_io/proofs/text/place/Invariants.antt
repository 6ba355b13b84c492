use Rattle.std.proofs.Common.{◌≡◌, ◌+◌, ◌≤◌}
use Rattle.hv_io.specs.Place.{line_at, column_at}
use Rattle.hv_io.proofs.text.place.Given as goal

-- the line and the column of the place that was come to
abbrev pub invariant-loop-byte : goal.invariant-loop-byte
invariant-loop-byte l = record {
  line : l.line ≡ line_at l.bytes l.byte-index;
  column : l.column ≡ column_at l.bytes l.byte-index;
  line_within : l.line ≤ l.byte-index + 1;
  column_within : l.column ≤ l.byte-index + 1;
}
