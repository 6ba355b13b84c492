use Rattle.std.proofs.Common.{◌≡◌, take, ap, ◌∙◌, arith}
use Rattle.term_tree.proofs.BankLaws.{Grows_same, take-grows, Grows-length}
use Rattle.unified_visits.specs.Visits.{NamesVisit}
use Rattle.visit_choices.proofs.Passing.{looks_at}
use Rattle.visit_choices.proofs.choices.look_from.Goals as goal

pub returns-clause-grows : goal.returns-clause-grows
returns-clause-grows g c =
    let old = g.B.Bank.trees c.args.bank.now in
    let new = g.B.Bank.trees c.walk_to.new.bank in
    Grows_same old (g.B.Bank.trees c.back.new.self) (c.back.ensures ∙ (ap (λ n. take n new) c.mark-mark.ensures ∙ take-grows old new c.walk_to.ensures.grows))

pub returns-clause-looks : goal.returns-clause-looks
returns-clause-looks g c =
    let choosing = c.args.choosing.now in
    looks_at (g.B.Bank.trees c.args.bank.now) choosing c.requires.known (λ m o. c.args.bare.now ≡ choosing.visit.now → NamesVisit (g.B.Bank.trees c.walk_to.new.bank) m o) c.args.number c.in_ok-passed.passed c.looked.result c.requires.within c.looked.ensures.large c.looked.ensures.going c.in_ok-passed.ensures.passes

pub back-requires : goal.back-requires
back-requires g c = omega (arith, c.mark-mark.ensures, Grows-length (g.B.Bank.trees c.args.bank.now) (g.B.Bank.trees c.walk_to.new.bank) c.walk_to.ensures.grows)

pub returns-clause-back : goal.returns-clause-back
returns-clause-back g c =
    let new = g.B.Bank.trees c.walk_to.new.bank in
    c.back.ensures ∙ (ap (λ n. take n new) c.mark-mark.ensures ∙ take-grows (g.B.Bank.trees c.args.bank.now) new c.walk_to.ensures.grows)

pub returns-in_err-passed-clause-grows : goal.returns-in_err-passed-clause-grows
returns-in_err-passed-clause-grows g c = c.walk_to.ensures.grows
