use Rattle.std.proofs.Common.{◌∙◌, ap, take}
use Rattle.term_tree.proofs.BankLaws.{Grows_same, take-grows}
use Rattle.clause_norms.proofs.norms_of.Goals as goal

pub returns-in-Err-clause-grows : goal.returns-in-Err-clause-grows
returns-in-Err-clause-grows g c =
    let old = g.B.Bank.trees c.args.bank.now in
    let now = g.B.Bank.trees c.norms_of_all.new.bank in
    Grows_same old (g.B.Bank.trees c.back.new.self) (c.back.ensures ∙ (ap (λ n. take n now) c.mark-mark.ensures ∙ take-grows old now c.norms_of_all.ensures.grows))

pub returns-in-Err-clause-err : goal.returns-in-Err-clause-err
returns-in-Err-clause-err g c =
    let old = g.B.Bank.trees c.args.bank.now in
    let now = g.B.Bank.trees c.norms_of_all.new.bank in
    c.back.ensures ∙ (ap (λ n. take n now) c.mark-mark.ensures ∙ take-grows old now c.norms_of_all.ensures.grows)
