use Rattle.std.proofs.Common.{◌+◌, [], ◌∷◌}
use Rattle.spec_translation.specs.Attacker.{done_in, kept_known}
use Rattle.pi_tree.specs.Protocols.{protocol_of}
use Rattle.attacker_clauses.proofs.Adding.{added_after}
use Rattle.term_tree.proofs.BankLaws.{Grows_trans}
use Rattle.attacker_clauses.proofs.phases.add_next_phase.Goals as goal

pub returns-clause-adds : goal.returns-clause-adds
returns-clause-adds g c =
    let k = c.args.at.phase in
    added_after (g.B.Bank.trees c.args.bank.now) (g.B.Bank.trees c.add_kept.new.bank) (g.B.Bank.trees c.add_phase.new.bank) c.args.list.now c.add_kept.new.list c.add_phase.new.list (kept_known k ∷ []) (done_in (protocol_of c.args.protocol.now) (k + 1))
    c.add_phase.result c.in_ok-add_kept.ensures.adds c.add_phase.ensures.adds

pub returns-clause-grows : goal.returns-clause-grows
returns-clause-grows g c = Grows_trans (g.B.Bank.trees c.args.bank.now) (g.B.Bank.trees c.add_kept.new.bank) (g.B.Bank.trees c.add_phase.new.bank) c.add_kept.ensures.grows c.add_phase.ensures.grows
