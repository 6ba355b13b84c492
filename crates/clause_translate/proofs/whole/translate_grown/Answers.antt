use Rattle.std.proofs.Common.{subst}
use Rattle.pi_tree.specs.Protocols.{protocol_of}
use Rattle.clause_translate.specs.declared.whole.Translated.{Translated}
use Rattle.clause_translate.specs.Whole.{TranslatesAll}
use Rattle.clause_translate.proofs.Translating.{ends_at}
use Rattle.term_tree.proofs.BankLaws.{Grows_trans}
use Rattle.clause_translate.proofs.whole.translate_grown.Goals as goal

pub returns-in-Large-clause-translates : goal.returns-in-Large-clause-translates
returns-in-Large-clause-translates g c =
    let P = protocol_of c.args.protocol.now in
    ends_at P c.args.query c.in-Large.point c.requires.there (subst (λ (t : Translated). TranslatesAll P (g.B.Bank.trees c.common_grown.new.bank) t) c.in-Large.is c.in_ok-point.ensures.translates)

pub with_goal-requires-clause-common : goal.with_goal-requires-clause-common
with_goal-requires-clause-common g c = subst (λ (t : Translated). TranslatesAll (protocol_of c.args.protocol.now) (g.B.Bank.trees c.common_grown.new.bank) t) c.in-Clauses.is c.in_ok-point.ensures.translates

pub returns-in_err-all-in-Clauses-clause-grows : goal.returns-in_err-all-in-Clauses-clause-grows
returns-in_err-all-in-Clauses-clause-grows g c = Grows_trans (g.B.Bank.trees c.args.bank.now) (g.B.Bank.trees c.common_grown.new.bank) (g.B.Bank.trees c.with_goal.new.bank) c.common_grown.ensures.grows c.with_goal.ensures.grows

pub returns-in_ok-all-in-Clauses-clause-grows : goal.returns-in_ok-all-in-Clauses-clause-grows
returns-in_ok-all-in-Clauses-clause-grows g c = Grows_trans (g.B.Bank.trees c.args.bank.now) (g.B.Bank.trees c.common_grown.new.bank) (g.B.Bank.trees c.with_goal.new.bank) c.common_grown.ensures.grows c.with_goal.ensures.grows
