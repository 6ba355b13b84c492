use Rattle.std.proofs.Common.{◌≡◌, [], ap, map}
use Rattle.pi_tree.specs.Patterns.{pattern_of}
use Rattle.pi_tree.specs.Processes.{process_of}
use Rattle.spec_calculus.specs.Choices.{choices}
use Rattle.spec_calculus.specs.Syntax.{Expression}
use Rattle.spec_calculus.specs.Syntax as calculus
use Rattle.spec_translation.specs.Otherwise.{otherwise_visit}
use Rattle.term_tree.proofs.BankLaws.{Grows_refl}
use Rattle.unified_visits.specs.declared.visit.Visit.{Visit}
use Rattle.unified_visits.specs.Places.{protocol_at}
use Rattle.unified_visits.specs.Visits.{visit_at, IsVisitIn, NamesVisit}
use Rattle.visit_choices.specs.Walks.{choices_of}
use Rattle.visit_choices.proofs.ButForDiffs.{nothing_known}
use Rattle.unified_visits.proofs.Named.{if_ok}
use Rattle.else_visits.proofs.otherwise.else_visit.Goals as goal

pub returns-in-Nil-clause-grows : goal.returns-in-Nil-clause-grows
returns-in-Nil-clause-grows g c = Grows_refl (g.B.Bank.trees c.args.bank.now)

pub returns-in-Nil-clause-known : goal.returns-in-Nil-clause-known
returns-in-Nil-clause-known g c =
    let old = g.B.Bank.trees c.args.bank.now in
    let w = c.args.choosing.now.visit.now in
    if_ok c.for_nothing.result (λ (made : Visit). made ≡ record w { scope = []; hypotheses = []; diffs = []; messages = [] }) (λ (made : Visit). IsVisitIn old made) (λ made e. nothing_known old w made e c.requires.visit) c.for_nothing.ensures

pub returns-in-Nil-clause-names : goal.returns-in-Nil-clause-names
returns-in-Nil-clause-names g c =
    let old = g.B.Bank.trees c.args.bank.now in
    let choosing = c.args.choosing.now in
    let P = protocol_at choosing.place.now in
    let w = choosing.visit.now in
    if_ok c.for_nothing.result (λ (made : Visit). made ≡ record w { scope = []; hypotheses = []; diffs = []; messages = [] })
    (λ (made : Visit). (expression : Expression) → choices_of choosing ≡ map (λ c. c.ruled) (choices P expression) → (process_of c.args.process.now ≡ calculus.Nil → ⊥) → NamesVisit old made (otherwise_visit P (visit_at old w) (pattern_of choosing.pattern.now) expression))
    (λ made e. λ expression are other. absurd (other (ap process_of c.in-Nil.is))) c.for_nothing.ensures

pub returns-in_default-clause-names : goal.returns-in_default-clause-names
returns-in_default-clause-names g c =
    let old = g.B.Bank.trees c.args.bank.now in
    let new = g.B.Bank.trees c.after_all_choices.new.bank in
    let choosing = c.args.choosing.now in
    let P = protocol_at choosing.place.now in
    let w = choosing.visit.now in
    if_ok c.after_all_choices.result
    (λ (made : Visit). (expression : Expression) → choices_of choosing ≡ map (λ c. c.ruled) (choices P expression) → NamesVisit new made (otherwise_visit P (visit_at old w) (pattern_of choosing.pattern.now) expression))
    (λ (made : Visit). (expression : Expression) → choices_of choosing ≡ map (λ c. c.ruled) (choices P expression) → (process_of c.args.process.now ≡ calculus.Nil → ⊥) → NamesVisit new made (otherwise_visit P (visit_at old w) (pattern_of choosing.pattern.now) expression))
    (λ made named. λ expression are other. named expression are) c.after_all_choices.ensures.names
