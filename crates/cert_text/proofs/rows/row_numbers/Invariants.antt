-- the numbers so far are read, and reading goes on
use Rattle.std.proofs.Common.{◌≡◌, ◌-◌, length}
use Rattle.spec_certificate_text.specs.Outcomes.{things}
use Rattle.spec_certificate_text.specs.Certificates.{one_number}
use Rattle.fact_reader.specs.Reads.{left_of}
use Rattle.fact_reader.proofs.Things.{IsGoing}
use Rattle.cert_text.proofs.rows.row_numbers.Given as goal

abbrev pub invariant-loop-round : goal.invariant-loop-round
invariant-loop-round l = record {
  read : IsGoing one_number (things one_number (left_of l.fn.cursor) l.fn.cursor.at) (length l.fn.cursor.bytes.now - l.round) (left_of l.cursor) l.cursor.at l.items.items;
  same : l.cursor.bytes.now ≡ l.fn.cursor.bytes.now;
}
