use Rattle.std.proofs.Common.{◌∙◌, ap, take, arith}
use Rattle.pi_tree.specs.Protocols.{protocol_of}
use Rattle.term_tree.proofs.BankLaws.{Grows_same, Grows-length, take-grows}
use Rattle.clause_translate.proofs.Sounding.{found_abstract}
use Rattle.clause_translate.proofs.whole.translate.Goals as goal

pub returns-in-Ok-Clauses-clause-runs : goal.returns-in-Ok-Clauses-clause-runs
returns-in-Ok-Clauses-clause-runs g c =
    found_abstract c.translations_abstract_runs.ensures (protocol_of c.args.protocol.now) c.args.query (g.B.Bank.trees c.translate_grown.new.bank) c.in-Ok-Clauses.field-0 c.in-Ok-Clauses.all c.in-Ok-Clauses.field-0-is
    c.requires.rules c.requires.scoped c.in-Ok-Clauses.ensures.translates

pub back-requires : goal.back-requires
back-requires g c = omega (arith, c.mark-mark.ensures, Grows-length (g.B.Bank.trees c.args.bank.now) (g.B.Bank.trees c.translate_grown.new.bank) c.translate_grown.ensures.grows)

pub back-requires-in-Err : goal.back-requires-in-Err
back-requires-in-Err g c = omega (arith, c.mark-mark.ensures, Grows-length (g.B.Bank.trees c.args.bank.now) (g.B.Bank.trees c.translate_grown.new.bank) c.translate_grown.ensures.grows)

pub returns-in-Ok-Large-clause-grows : goal.returns-in-Ok-Large-clause-grows
returns-in-Ok-Large-clause-grows g c = Grows_same (g.B.Bank.trees c.args.bank.now) (g.B.Bank.trees c.back.new.self) (c.back.ensures ∙ (ap (λ n. take n (g.B.Bank.trees c.translate_grown.new.bank)) c.mark-mark.ensures ∙ take-grows (g.B.Bank.trees c.args.bank.now) (g.B.Bank.trees c.translate_grown.new.bank) c.translate_grown.ensures.grows))

pub returns-in-Ok-Large-clause-large : goal.returns-in-Ok-Large-clause-large
returns-in-Ok-Large-clause-large g c = c.back.ensures ∙ (ap (λ n. take n (g.B.Bank.trees c.translate_grown.new.bank)) c.mark-mark.ensures ∙ take-grows (g.B.Bank.trees c.args.bank.now) (g.B.Bank.trees c.translate_grown.new.bank) c.translate_grown.ensures.grows)

pub returns-in-Err-clause-grows : goal.returns-in-Err-clause-grows
returns-in-Err-clause-grows g c = Grows_same (g.B.Bank.trees c.args.bank.now) (g.B.Bank.trees c.back-in-Err.new.self) (c.back-in-Err.ensures ∙ (ap (λ n. take n (g.B.Bank.trees c.translate_grown.new.bank)) c.mark-mark.ensures ∙ take-grows (g.B.Bank.trees c.args.bank.now) (g.B.Bank.trees c.translate_grown.new.bank) c.translate_grown.ensures.grows))

pub returns-in-Err-clause-err : goal.returns-in-Err-clause-err
returns-in-Err-clause-err g c = c.back-in-Err.ensures ∙ (ap (λ n. take n (g.B.Bank.trees c.translate_grown.new.bank)) c.mark-mark.ensures ∙ take-grows (g.B.Bank.trees c.args.bank.now) (g.B.Bank.trees c.translate_grown.new.bank) c.translate_grown.ensures.grows)
