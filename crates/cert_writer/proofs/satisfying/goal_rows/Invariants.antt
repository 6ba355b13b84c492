use Rattle.std.proofs.Common.{◌≡◌, Some}
use Rattle.spec_calculus.specs.Syntax.{Query}
use Rattle.spec_calculus.specs.Points.{numbered}
use Rattle.pi_tree.specs.Protocols.{protocol_of}
use Rattle.cert_writer.proofs.Meeting.{HaveGoals}
use Rattle.cert_writer.proofs.satisfying.goal_rows.Given as goal

abbrev pub invariant-each : goal.invariant-each
invariant-each g l = (q : Query) → numbered (protocol_of l.writer.protocol.now).queries l.writer.query ≡ Some q → HaveGoals (g.B.Bank.trees l.bank) (protocol_of l.writer.protocol.now) q l.log l.k l.rows
