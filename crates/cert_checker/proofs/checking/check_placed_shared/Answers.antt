use Rattle.pi_tree.specs.Protocols.{protocol_of}
use Rattle.cert_checker.proofs.Accepting.{accepted_holds}
use Rattle.cert_checker.proofs.checking.check_placed_shared.Goals as goal

pub check_over-requires : goal.check_over-requires
check_over-requires c = record { asked = record { limits = c.requires.limits; rules = c.requires.rules; scoped = c.requires.scoped; queries = c.requires.queries; there = c.requires.there } }

pub returns-clause-holds : goal.returns-clause-holds
returns-clause-holds c =
    accepted_holds (protocol_of c.args.protocol.now) c.args.query c.args.cert c.check_over.result c.args.said.now c.requires.rules c.requires.scoped c.requires.queries c.accepted_numbers_hold.ensures c.check_over.ensures
