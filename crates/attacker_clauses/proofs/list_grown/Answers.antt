use Rattle.std.proofs.Common.{[], ◌∷◌, ◌++◌, filter_map}
use Rattle.std.specs.List.{enumerate_from}
use Rattle.spec_calculus.specs.Points.{greatest_phase}
use Rattle.spec_translation.specs.Attacker.{name_known, fresh_known, done_in, done_after, attacker_raw}
use Rattle.pi_tree.specs.Protocols.{protocol_of}
use Rattle.attacker_clauses.proofs.Adding.{both_added, all_listed}
use Rattle.term_tree.proofs.BankLaws.{Grows_trans}
use Rattle.attacker_clauses.proofs.list_grown.Goals as goal

pub returns-clause-listed : goal.returns-clause-listed
returns-clause-listed g c =
    let P = protocol_of c.args.protocol.now in
    let start = g.B.Bank.trees c.args.bank.now in
    let named = g.B.Bank.trees c.add_names.new.bank in
    let own = g.B.Bank.trees c.add_own_names.new.bank in
    let first = g.B.Bank.trees c.add_phase.new.bank in
    let end = g.B.Bank.trees c.add_later_phases.new.bank in
    let later = done_after P 0 (greatest_phase P.main) in
    let done = both_added own first end c.add_own_names.new.list c.add_phase.new.list c.add_later_phases.new.list (done_in P 0) later c.in_ok-add_phase.ensures.adds c.in_ok-add_later_phases.ensures.adds in
    let others = both_added named own end c.add_names.new.list c.add_own_names.new.list c.add_later_phases.new.list (fresh_known ∷ []) (done_in P 0 ++ later) c.in_ok-add_own_names.ensures.adds done in
    let whole = both_added start named end c.new.result.items c.add_names.new.list c.add_later_phases.new.list (filter_map name_known (enumerate_from 1 P.frees)) (fresh_known ∷ (done_in P 0 ++ later)) c.in_ok-add_names.ensures.adds others in
    all_listed start end c.new.result.items c.add_later_phases.new.list (attacker_raw P) c.new.ensures.items whole

pub returns-in_err-add_own_names-clause-grows : goal.returns-in_err-add_own_names-clause-grows
returns-in_err-add_own_names-clause-grows g c = Grows_trans (g.B.Bank.trees c.args.bank.now) (g.B.Bank.trees c.add_names.new.bank) (g.B.Bank.trees c.add_own_names.new.bank) c.add_names.ensures.grows c.add_own_names.ensures.grows

pub returns-in_err-add_phase-clause-grows : goal.returns-in_err-add_phase-clause-grows
returns-in_err-add_phase-clause-grows g c = Grows_trans (g.B.Bank.trees c.args.bank.now) (g.B.Bank.trees c.add_own_names.new.bank) (g.B.Bank.trees c.add_phase.new.bank) (Grows_trans (g.B.Bank.trees c.args.bank.now) (g.B.Bank.trees c.add_names.new.bank) (g.B.Bank.trees c.add_own_names.new.bank) c.add_names.ensures.grows c.add_own_names.ensures.grows) c.add_phase.ensures.grows

pub returns-in_err-add_later_phases-clause-grows : goal.returns-in_err-add_later_phases-clause-grows
returns-in_err-add_later_phases-clause-grows g c = Grows_trans (g.B.Bank.trees c.args.bank.now) (g.B.Bank.trees c.add_phase.new.bank) (g.B.Bank.trees c.add_later_phases.new.bank) (Grows_trans (g.B.Bank.trees c.args.bank.now) (g.B.Bank.trees c.add_own_names.new.bank) (g.B.Bank.trees c.add_phase.new.bank) (Grows_trans (g.B.Bank.trees c.args.bank.now) (g.B.Bank.trees c.add_names.new.bank) (g.B.Bank.trees c.add_own_names.new.bank) c.add_names.ensures.grows c.add_own_names.ensures.grows) c.add_phase.ensures.grows) c.add_later_phases.ensures.grows

pub returns-clause-grows : goal.returns-clause-grows
returns-clause-grows g c = Grows_trans (g.B.Bank.trees c.args.bank.now) (g.B.Bank.trees c.add_phase.new.bank) (g.B.Bank.trees c.add_later_phases.new.bank) (Grows_trans (g.B.Bank.trees c.args.bank.now) (g.B.Bank.trees c.add_own_names.new.bank) (g.B.Bank.trees c.add_phase.new.bank) (Grows_trans (g.B.Bank.trees c.args.bank.now) (g.B.Bank.trees c.add_names.new.bank) (g.B.Bank.trees c.add_own_names.new.bank) c.add_names.ensures.grows c.add_own_names.ensures.grows) c.add_phase.ensures.grows) c.add_later_phases.ensures.grows
