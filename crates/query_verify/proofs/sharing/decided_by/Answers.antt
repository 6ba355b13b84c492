use Rattle.std.proofs.Common.{◌≡◌, ◌∙◌, ap, refl, sym, subst, take}
use Rattle.term_tree.proofs.BankLaws.{take-grows}
use Rattle.clause_saturate.specs.Common.{IsFreshCommon}
use Rattle.query_verify.specs.Settled.{shared_of}
use Rattle.query_verify.proofs.Commons.{rewound}
use Rattle.query_verify.proofs.sharing.decided_by.Goals as goal

pub finished-answer-requires : goal.finished-answer-requires
finished-answer-requires g c = λ κs h. (h, (c.requires.question, (c.requires.given, (refl, (c.requires.common.held, c.requires.kept)))))

pub rewind-requires : goal.rewind-requires
rewind-requires g c = c.finished-answer.ensures.common.within

pub returns-clause-bank : goal.returns-clause-bank
returns-clause-bank g c =
    let old = g.B.Bank.trees c.args.bank.now in
    let mid = g.B.Bank.trees c.finished-answer.new.bank in
    c.rewind.ensures.bank ∙ (ap (λ n. take n mid) (c.finished-answer.ensures.size ∙ c.requires.common.size) ∙ take-grows old mid c.finished-answer.ensures.grows)

pub returns-clause-common : goal.returns-clause-common
returns-clause-common g c =
    let old = g.B.Bank.trees c.args.bank.now in
    let mid = g.B.Bank.trees c.finished-answer.new.bank in
    let new = g.B.Bank.trees c.rewind.new.bank in
    let given = c.args.given.now in
    let budget = c.args.question.now.budget in
    let same : new ≡ old = c.rewind.ensures.bank ∙ (ap (λ n. take n mid) (c.finished-answer.ensures.size ∙ c.requires.common.size) ∙ take-grows old mid c.finished-answer.ensures.grows) in
    subst (λ trees. IsFreshCommon new (shared_of trees given budget) c.rewind.new.common) (sym same)
    (rewound old new (shared_of old given budget) c.rewind.new.common same (c.rewind.ensures.common (shared_of old given budget) c.finished-answer.ensures.common) (c.rewind.ensures.log ∙ sym c.rewind.ensures.begun)
    (c.rewind.ensures.size ∙ (c.finished-answer.ensures.size ∙ c.requires.common.size)))
