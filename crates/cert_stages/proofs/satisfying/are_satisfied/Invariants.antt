use Rattle.std.proofs.Common.{◌≡◌, Some, drop}
use Rattle.spec_calculus.specs.Syntax.{Query}
use Rattle.spec_calculus.specs.Points.{numbered}
use Rattle.spec_certificates.specs.Certificate.{GoalHolds}
use Rattle.spec_certificates.specs.Ruling.{resting_bad}
use Rattle.pi_tree.specs.Protocols.{protocol_of}
use Rattle.cert_stages.specs.Answers.{numbered_at, rests_by}
use Rattle.cert_stages.proofs.Walking.{IsWalked}
use Rattle.cert_stages.proofs.satisfying.are_satisfied.Given as goal

abbrev pub invariant-each : goal.invariant-each
invariant-each g l = (q : Query) → numbered (protocol_of l.checker.protocol.now).queries l.checker.query ≡ Some q
    → IsWalked (GoalHolds (protocol_of l.checker.protocol.now) q) (resting_bad (rests_by l.checker.numbers.now) (numbered_at (g.B.Bank.trees l.bank) l.checker.clauses.now)) l.checker.goals.now 0
    (resting_bad (rests_by l.checker.numbers.now) (drop l.k (numbered_at (g.B.Bank.trees l.bank) l.checker.clauses.now))) l.next
