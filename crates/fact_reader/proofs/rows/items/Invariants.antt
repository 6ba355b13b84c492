-- the terms or sides so far are read, and reading goes on
use Rattle.std.proofs.Common.{◌≡◌, ◌+◌, ◌-◌, length, map}
use Rattle.std.specs.List.{AllByRecursion}
use Rattle.spec_certificate_text.specs.Rounds.{collects}
use Rattle.spec_certificate_text.specs.Walks as walks
use Rattle.fact_reader.specs.Reads.{left_of}
use Rattle.fact_reader.proofs.Rounds.{AreGoing}
use Rattle.fact_reader.proofs.rows.items.Given as goal

abbrev pub invariant-loop-round : goal.invariant-loop-round
invariant-loop-round g l = record {
  read : AreGoing (collects (walks.item_before (g.R.TermReader.walk l.reader l.row.binds) l.row.closing)) (walks.read_row (g.R.TermReader.walk l.reader l.row.binds) l.row.closing (g.R.TermReader.seen l.fn.state) (left_of l.fn.cursor) l.fn.cursor.at)
      (length l.fn.cursor.bytes.now + 1 - l.round) (left_of l.cursor) l.cursor.at (map (g.R.TermReader.term_of l.reader) l.items.items, g.R.TermReader.seen l.state);
  same : l.cursor.bytes.now ≡ l.fn.cursor.bytes.now;
  known : AllByRecursion (g.R.TermReader.IsTerm l.reader) l.items.items;
}
