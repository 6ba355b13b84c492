use Rattle.std.proofs.Common.{arith}
use Rattle.pi_tree.specs.Protocols.{protocol_of}
use Rattle.term_tree.proofs.BankLaws.{Grows-length}
use Rattle.clause_resolve.proofs.Answering.{as_before}
use Rattle.cert_checker.proofs.Accepting.{accepted_holds}
use Rattle.cert_checker.proofs.checking.check_placed_in.Goals as goal

pub check_copied-ruling-requires : goal.check_copied-ruling-requires
check_copied-ruling-requires g c = record { asked = record { limits = c.requires.limits; rules = c.requires.rules; scoped = c.requires.scoped; queries = c.requires.queries; there = c.requires.there } }

pub returns-clause-holds : goal.returns-clause-holds
returns-clause-holds g c =
    accepted_holds (protocol_of c.args.protocol.now) c.args.query c.args.placed.now.cert.now c.check_copied-ruling.result c.args.placed.now.said.now c.requires.rules c.requires.scoped c.requires.queries c.accepted_numbers_hold.ensures c.check_copied-ruling.ensures.ruled

pub back-requires : goal.back-requires
back-requires g c = omega (arith, c.mark-mark.ensures, Grows-length (g.B.Bank.trees c.args.bank.now) (g.B.Bank.trees c.check_copied-ruling.new.bank) c.check_copied-ruling.ensures.grows)

pub returns-clause-bank : goal.returns-clause-bank
returns-clause-bank g c = as_before (g.B.Bank.trees c.args.bank.now) (g.B.Bank.trees c.check_copied-ruling.new.bank) (g.B.Bank.trees c.back.new.self) _ c.check_copied-ruling.ensures.grows c.mark-mark.ensures c.back.ensures
