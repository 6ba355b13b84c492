use Rattle.std.proofs.Common.{◌∙◌, ap, arith}
use Rattle.std.proofs.lemmas.Grind.{common_steps}
use Rattle.std.specs.Prelude.{take}
use Rattle.term_tree.proofs.BankLaws.{take-grows}
use Rattle.query_verify.proofs.deciding.verdict.Goals as goal

pub returns-clause-bank : goal.returns-clause-bank
returns-clause-bank g c =
    let old = g.B.Bank.trees c.args.bank.now in
    let new = g.B.Bank.trees c.asked-answer.new.bank in
    c.back.ensures ∙ (ap (λ n. take n new) c.mark-mark.ensures ∙ take-grows old new c.asked-answer.ensures.grows)

pub back-requires : goal.back-requires
back-requires g c = grind (arith, common_steps)
