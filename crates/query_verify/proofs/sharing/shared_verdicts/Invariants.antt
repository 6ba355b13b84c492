use Rattle.std.proofs.Common.{◌≡◌, take}
use Rattle.pi_tree.specs.Protocols.{protocol_of}
use Rattle.clause_saturate.specs.Common.{IsFreshCommon}
use Rattle.cert_writer.specs.Known.{IsKnown}
use Rattle.query_verify.specs.Settled.{shared_of}
use Rattle.query_verify.specs.Told.{AnswerQueries}
use Rattle.query_verify.proofs.sharing.shared_verdicts.Given as goal

-- the bank is as before, the common part is as it began, what is kept is right, and the queries so far are answered
abbrev pub invariant-each : goal.invariant-each
invariant-each g l = record {
  bank : g.B.Bank.trees l.bank ≡ g.B.Bank.trees l.fn.bank;
  common : IsFreshCommon (g.B.Bank.trees l.bank) (shared_of (g.B.Bank.trees l.bank) l.given l.asking.budget) l.sharing.common;
  kept : IsKnown (g.B.Bank.trees l.bank) l.sharing.known;
  answered : AnswerQueries (protocol_of l.asking.protocol.now) l.asking.budget (take l.index (protocol_of l.asking.protocol.now).queries) l.items.items;
}
