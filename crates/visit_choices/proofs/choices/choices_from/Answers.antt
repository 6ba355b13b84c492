use Rattle.std.proofs.Common.{◌≡◌, ◌∙◌, true, false, take, drop, refl, ap, sym, arith}
use Rattle.pi_tree.specs.Patterns.{pattern_of}
use Rattle.term_tree.proofs.BankLaws.{Grows_same, take-grows, Grows-length}
use Rattle.unified_visits.specs.Places.{protocol_at}
use Rattle.unified_visits.specs.Visits.{visit_at, NamesVisit}
use Rattle.visit_choices.specs.Walks.{choices_of}
use Rattle.visit_choices.proofs.ButForDiffs.{like_itself}
use Rattle.visit_choices.proofs.Passing.{passes_back, passes_told}
use Rattle.visit_choices.proofs.choices.choices_from.Goals as goal

pub returns-in_err-passed-clause-grows : goal.returns-in_err-passed-clause-grows
returns-in_err-passed-clause-grows g c = c.walk_to.ensures.grows

pub returns-then-not-is_nowhere-clause-grows : goal.returns-then-not-is_nowhere-clause-grows
returns-then-not-is_nowhere-clause-grows g c = c.walk_to.ensures.grows

pub returns-then-not-is_nowhere-clause-back : goal.returns-then-not-is_nowhere-clause-back
returns-then-not-is_nowhere-clause-back g c = λ e. absurd (let same : false ≡ true = sym c.if-not-is_nowhere.true ∙ (c.is_nowhere.ensures.is ∙ e) in cc)

pub returns-then-not-is_nowhere-clause-passes : goal.returns-then-not-is_nowhere-clause-passes
returns-then-not-is_nowhere-clause-passes g c =
    let choosing = c.args.choosing.now in
    let w = choosing.visit.now in
    let new = g.B.Bank.trees c.walk_to.new.bank in
    passes_told (protocol_at choosing.place.now) (visit_at (g.B.Bank.trees c.args.bank.now) w) (pattern_of choosing.pattern.now) (drop c.args.number (choices_of choosing)) (λ m o. w ≡ w → NamesVisit new m o) (NamesVisit new) c.in_ok-passed.passed (λ m o told. told refl) c.in_ok-passed.ensures.passes

pub walk_to-requires-clause-like : goal.walk_to-requires-clause-like
walk_to-requires-clause-like g c = like_itself (g.B.Bank.trees c.args.bank.now) c.args.choosing.now.visit.now c.requires.known.visit

pub back-requires : goal.back-requires
back-requires g c = omega (arith, c.mark-mark.ensures, Grows-length (g.B.Bank.trees c.args.bank.now) (g.B.Bank.trees c.walk_to.new.bank) c.walk_to.ensures.grows)

pub returns-clause-grows : goal.returns-clause-grows
returns-clause-grows g c =
    let old = g.B.Bank.trees c.args.bank.now in
    let new = g.B.Bank.trees c.walk_to.new.bank in
    Grows_same old (g.B.Bank.trees c.back.new.self) (c.back.ensures ∙ (ap (λ n. take n new) c.mark-mark.ensures ∙ take-grows old new c.walk_to.ensures.grows))

pub returns-clause-back : goal.returns-clause-back
returns-clause-back g c =
    let new = g.B.Bank.trees c.walk_to.new.bank in
    λ e. c.back.ensures ∙ (ap (λ n. take n new) c.mark-mark.ensures ∙ take-grows (g.B.Bank.trees c.args.bank.now) new c.walk_to.ensures.grows)

pub returns-clause-passes : goal.returns-clause-passes
returns-clause-passes g c =
    let choosing = c.args.choosing.now in
    let w = choosing.visit.now in
    passes_back (protocol_at choosing.place.now) (visit_at (g.B.Bank.trees c.args.bank.now) w) (pattern_of choosing.pattern.now) (drop c.args.number (choices_of choosing)) (λ m o. w ≡ w → NamesVisit (g.B.Bank.trees c.walk_to.new.bank) m o) (NamesVisit (g.B.Bank.trees c.back.new.self)) c.in_ok-passed.passed
    (c.is_nowhere.ensures.way c.if-not-is_nowhere.false) c.in_ok-passed.ensures.passes
