use Rattle.pi_tree.specs.Protocols.{protocol_of}
use Rattle.cert_checker.proofs.Accepting.{by_selection, accepted_suffices}
use Rattle.cert_checker.proofs.checking.check_shared.Goals as goal

pub returns-clause-ruled : goal.returns-clause-ruled
returns-clause-ruled c = by_selection (protocol_of c.args.protocol.now) c.args.query c.args.cert c.check_placed_shared.result c.selected_numbers_rule_alike.ensures c.check_placed_shared.ensures.ruled

pub returns-clause-suffices : goal.returns-clause-suffices
returns-clause-suffices c =
    accepted_suffices (protocol_of c.args.protocol.now) c.args.query c.args.cert c.check_placed_shared.result c.accepted_certificates_suffice.ensures
    (by_selection (protocol_of c.args.protocol.now) c.args.query c.args.cert c.check_placed_shared.result c.selected_numbers_rule_alike.ensures c.check_placed_shared.ensures.ruled)
