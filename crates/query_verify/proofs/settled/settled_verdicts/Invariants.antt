use Rattle.std.proofs.Common.{take}
use Rattle.pi_tree.specs.Protocols.{protocol_of}
use Rattle.query_verify.specs.Told.{AnswerQueries}
use Rattle.query_verify.proofs.settled.settled_verdicts.Given as goal

-- the queries so far are answered
abbrev pub invariant-each : goal.invariant-each
invariant-each g l = AnswerQueries (protocol_of l.asking.protocol.now) l.asking.budget (take l.index (protocol_of l.asking.protocol.now).queries) l.items.items
