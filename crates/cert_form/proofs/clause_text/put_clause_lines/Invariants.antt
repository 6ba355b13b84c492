use Rattle.std.proofs.Common.{rc_value}
use Rattle.pi_tree.specs.Protocols.{protocol_of}
use Rattle.cert_form.proofs.Facts.{ClausesWritten}
use Rattle.cert_form.proofs.clause_text.put_clause_lines.Given as goal

abbrev pub invariant-each : goal.invariant-each
invariant-each g l = ClausesWritten g.T.TermWriter.kept_of g.T.TermWriter.one (protocol_of l.protocol) rc_value l.clause-index l.clauses l.clause-items (g.T.TermWriter.kept l.initial.writer) (g.T.TermWriter.kept l.writer) l.initial.out.items l.out.items
