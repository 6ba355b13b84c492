-- the clauses so far are read, and reading goes on
use Rattle.std.proofs.Common.{◌≡◌, ◌-◌, []}
use Rattle.spec_calculus.specs.Bounds.{most_clauses}
use Rattle.clause_form.specs.Fit.{clauses_at}
use Rattle.clause_form.specs.Seen.{AreClausesIn}
use Rattle.pi_tree.specs.Protocols.{protocol_of}
use Rattle.spec_node_reading.specs.Loops.{lines_through}
use Rattle.fact_reader.specs.Reads.{left_of}
use Rattle.spec_certificate_text.specs.Rounds.{puts}
use Rattle.spec_node_counts.specs.ReadClauses.{clause_line}
use Rattle.node_reader.specs.Tables.{table_of}
use Rattle.numbered_reader.specs.Walks.{walked_of}
use Rattle.numbered_reader.proofs.Loops.{AreLined}
use Rattle.numbered_reader.proofs.clauses.clauses.Given as goal

abbrev pub invariant-loop-round : goal.invariant-loop-round
invariant-loop-round l = record {
  read : AreLined 99 (clause_line (protocol_of l.names.protocol.now) (table_of l.table))
      (lines_through 99 (puts (clause_line (protocol_of l.names.protocol.now) (table_of l.table))) most_clauses ([], walked_of l.fn.walked) (left_of l.fn.cursor) l.fn.cursor.at)
      (most_clauses - l.round) (left_of l.cursor) l.cursor.at (clauses_at (table_of l.table).terms l.items.items) (walked_of l.walked);
  same : l.cursor.bytes.now ≡ l.fn.cursor.bytes.now;
  known : AreClausesIn (table_of l.table).terms l.items.items;
}
