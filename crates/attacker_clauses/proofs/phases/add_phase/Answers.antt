use Rattle.std.proofs.Common.{[], ◌∷◌, ◌++◌, map, flat_map, filter_map}
use Rattle.std.specs.List.{enumerate_from}
use Rattle.spec_translation.specs.Attacker.{constructor_applied, rule_applied, message_heard, message_sent}
use Rattle.pi_tree.specs.Protocols.{protocol_of}
use Rattle.attacker_clauses.proofs.Adding.{added_after}
use Rattle.term_tree.proofs.BankLaws.{Grows_trans}
use Rattle.attacker_clauses.proofs.phases.add_phase.Goals as goal

pub returns-clause-adds : goal.returns-clause-adds
returns-clause-adds g c =
    let P = protocol_of c.args.protocol.now in
    let k = c.args.at.phase in
    let start = g.B.Bank.trees c.args.bank.now in
    let constructed = g.B.Bank.trees c.add_constructors.new.bank in
    let reduced = g.B.Bank.trees c.add_destructors.new.bank in
    let end = g.B.Bank.trees c.add_channels.new.bank in
    let constructors = filter_map (constructor_applied k) (enumerate_from 1 P.constructors) in
    let rules = flat_map (λ destructor. map (rule_applied P k) destructor.rules) P.destructors in
    let channels = message_heard k ∷ message_sent k ∷ [] in
    let last = added_after constructed reduced end c.add_constructors.new.list c.add_destructors.new.list c.add_channels.new.list rules channels c.add_channels.result c.in_ok-add_destructors.ensures.adds c.add_channels.ensures.adds in
    added_after start constructed end c.args.list.now c.add_constructors.new.list c.add_channels.new.list constructors (rules ++ channels) c.add_channels.result c.in_ok-add_constructors.ensures.adds last

pub returns-in_err-add_destructors-clause-grows : goal.returns-in_err-add_destructors-clause-grows
returns-in_err-add_destructors-clause-grows g c = Grows_trans (g.B.Bank.trees c.args.bank.now) (g.B.Bank.trees c.add_constructors.new.bank) (g.B.Bank.trees c.add_destructors.new.bank) c.add_constructors.ensures.grows c.add_destructors.ensures.grows

pub returns-clause-grows : goal.returns-clause-grows
returns-clause-grows g c = Grows_trans (g.B.Bank.trees c.args.bank.now) (g.B.Bank.trees c.add_destructors.new.bank) (g.B.Bank.trees c.add_channels.new.bank) (Grows_trans (g.B.Bank.trees c.args.bank.now) (g.B.Bank.trees c.add_constructors.new.bank) (g.B.Bank.trees c.add_destructors.new.bank) c.add_constructors.ensures.grows c.add_destructors.ensures.grows) c.add_channels.ensures.grows
