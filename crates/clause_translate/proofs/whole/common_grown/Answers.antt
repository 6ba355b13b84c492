use Rattle.std.proofs.Common.{subst}
use Rattle.pi_tree.specs.Protocols.{protocol_of}
use Rattle.clause_translate.specs.declared.whole.Translated.{Translated}
use Rattle.clause_translate.specs.Whole.{IsVisited}
use Rattle.clause_translate.proofs.FewPoints.{first_few}
use Rattle.clause_translate.proofs.Reading.{main_fit, has_fit_rules}
use Rattle.clause_translate.proofs.Translating.{common_to, all_end_at}
use Rattle.term_tree.proofs.BankLaws.{Grows_trans}
use Rattle.clause_translate.proofs.whole.common_grown.Goals as goal

pub visited-requires-clause-fit : goal.visited-requires-clause-fit
visited-requires-clause-fit g c = main_fit (protocol_of c.args.protocol.now) c.requires.scoped

pub visited-requires-clause-rules : goal.visited-requires-clause-rules
visited-requires-clause-rules g c = has_fit_rules (protocol_of c.args.protocol.now) c.requires.rules c.requires.limits c.requires.scoped

pub visited-requires-clause-points : goal.visited-requires-clause-points
visited-requires-clause-points g c = first_few (protocol_of c.args.protocol.now).main c.requires.limits.points

pub returns-in-Large-clause-translates : goal.returns-in-Large-clause-translates
returns-in-Large-clause-translates g c =
    let first = g.B.Bank.trees c.attacker_list.new.bank in
    let mid = g.B.Bank.trees c.visited.new.bank in
    all_end_at (protocol_of c.args.protocol.now) c.in-Large.point (subst (λ (t : Translated). IsVisited (protocol_of c.args.protocol.now) first mid c.in_ok-clauses.clauses t) c.in-Large.is c.in_ok-point.ensures.visits)

pub returns-in-Clauses-clause-translates : goal.returns-in-Clauses-clause-translates
returns-in-Clauses-clause-translates g c =
    let first = g.B.Bank.trees c.attacker_list.new.bank in
    let mid = g.B.Bank.trees c.visited.new.bank in
    let P = protocol_of c.args.protocol.now in
    common_to P first mid c.in_ok-clauses.clauses c.in-Clauses.common c.in_ok-clauses.ensures.names (subst (λ (t : Translated). IsVisited P first mid c.in_ok-clauses.clauses t) c.in-Clauses.is c.in_ok-point.ensures.visits)

pub returns-in_err-point-clause-grows : goal.returns-in_err-point-clause-grows
returns-in_err-point-clause-grows g c = Grows_trans (g.B.Bank.trees c.args.bank.now) (g.B.Bank.trees c.attacker_list.new.bank) (g.B.Bank.trees c.visited.new.bank) c.attacker_list.ensures.grows c.visited.ensures.grows

pub returns-in-Large-clause-grows : goal.returns-in-Large-clause-grows
returns-in-Large-clause-grows g c = Grows_trans (g.B.Bank.trees c.args.bank.now) (g.B.Bank.trees c.attacker_list.new.bank) (g.B.Bank.trees c.visited.new.bank) c.attacker_list.ensures.grows c.visited.ensures.grows

pub returns-in-Clauses-clause-grows : goal.returns-in-Clauses-clause-grows
returns-in-Clauses-clause-grows g c = Grows_trans (g.B.Bank.trees c.args.bank.now) (g.B.Bank.trees c.attacker_list.new.bank) (g.B.Bank.trees c.visited.new.bank) c.attacker_list.ensures.grows c.visited.ensures.grows
