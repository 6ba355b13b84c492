-- the hypotheses so far are read, and reading goes on
use Rattle.std.proofs.Common.{◌≡◌, ◌+◌, ◌-◌, false, length, map}
use Rattle.std.specs.List.{AllByRecursion}
use Rattle.spec_certificate_text.specs.Rounds.{collects}
use Rattle.spec_certificate_text.specs.Walks as walks
use Rattle.pi_tree.specs.Protocols.{protocol_of}
use Rattle.fact_reader.specs.Reads.{left_of}
use Rattle.fact_reader.proofs.Rounds.{AreGoing}
use Rattle.fact_reader.proofs.clauses.some_hypotheses.Given as goal

abbrev pub invariant-loop-round : goal.invariant-loop-round
invariant-loop-round g l = record {
  read : AreGoing (collects (walks.one_hypothesis (g.R.TermReader.walk l.reader false) g.R.TermReader.counts (protocol_of l.names.protocol.now)))
      (walks.some_hypotheses (g.R.TermReader.walk l.reader false) g.R.TermReader.counts (protocol_of l.names.protocol.now) (g.R.TermReader.seen l.fn.state) (left_of l.fn.cursor) l.fn.cursor.at)
      (length l.fn.cursor.bytes.now + 1 - l.round) (left_of l.cursor) l.cursor.at (map (g.R.TermReader.fact_of l.reader) l.items.items, g.R.TermReader.seen l.state);
  same : l.cursor.bytes.now ≡ l.fn.cursor.bytes.now;
  known : AllByRecursion (g.R.TermReader.IsFact l.reader) l.items.items;
}
