-- the rows so far are read, and reading goes on
use Rattle.std.proofs.Common.{◌≡◌, ◌-◌, length, map}
use Rattle.spec_certificate_text.specs.Certificates.{row_line, read_rows}
use Rattle.fact_reader.specs.Reads.{left_of}
use Rattle.cert_text.proofs.Lines.{AreRead}
use Rattle.cert_text.proofs.rows.rows.Given as goal

abbrev pub invariant-loop-round : goal.invariant-loop-round
invariant-loop-round l = record {
  read : AreRead l.letter (row_line l.letter) (read_rows l.letter (left_of l.fn.cursor) l.fn.cursor.at) (length l.fn.cursor.bytes.now - l.round) (left_of l.cursor) l.cursor.at (map (λ row. row.items) l.items.items);
  same : l.cursor.bytes.now ≡ l.fn.cursor.bytes.now;
}
