-- the constraints so far are read, and reading goes on
use Rattle.std.proofs.Common.{◌≡◌, ◌+◌, ◌-◌, true, length, map}
use Rattle.std.specs.List.{AllByRecursion}
use Rattle.spec_certificate_text.specs.Rounds.{collects}
use Rattle.spec_certificate_text.specs.Walks as walks
use Rattle.fact_reader.specs.Reads.{left_of}
use Rattle.fact_reader.proofs.Rounds.{AreGoing}
use Rattle.fact_reader.proofs.diffs.some_diffs.Given as goal

abbrev pub invariant-loop-round : goal.invariant-loop-round
invariant-loop-round g l = record {
  read : AreGoing (collects (walks.one_diff (g.R.TermReader.walk l.reader true) g.R.TermReader.counts))
      (walks.some_diffs (g.R.TermReader.walk l.reader true) g.R.TermReader.counts (g.R.TermReader.seen l.fn.state) (left_of l.fn.cursor) l.fn.cursor.at)
      (length l.fn.cursor.bytes.now + 1 - l.round) (left_of l.cursor) l.cursor.at (map (g.R.TermReader.diff_of l.reader) l.items.items, g.R.TermReader.seen l.state);
  same : l.cursor.bytes.now ≡ l.fn.cursor.bytes.now;
  known : AllByRecursion (g.R.TermReader.IsDiff l.reader) l.items.items;
}
