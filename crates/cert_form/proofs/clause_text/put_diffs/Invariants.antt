use Rattle.pi_tree.specs.Protocols.{protocol_of}
use Rattle.cert_form.proofs.Facts.{DiffsWritten}
use Rattle.cert_form.proofs.clause_text.put_diffs.Given as goal

abbrev pub invariant-each : goal.invariant-each
invariant-each g l = DiffsWritten g.T.TermWriter.kept_of g.T.TermWriter.one (protocol_of l.protocol) l.behind l.place l.diffs l.diff-items (g.T.TermWriter.kept l.initial.writer) (g.T.TermWriter.kept l.writer) l.initial.out.items l.out.items
