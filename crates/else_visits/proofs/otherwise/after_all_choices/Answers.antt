use Rattle.std.proofs.Common.{◌≡◌, ◌++◌, map}
use Rattle.pi_tree.specs.Patterns.{pattern_of}
use Rattle.spec_calculus.specs.Choices.{choices}
use Rattle.spec_calculus.specs.Syntax.{Expression}
use Rattle.spec_translation.specs.Otherwise.{otherwise_visit}
use Rattle.unified_visits.specs.declared.visit.Visit.{Visit}
use Rattle.unified_visits.specs.Places.{protocol_at}
use Rattle.unified_visits.specs.Visits.{visit_at, IsVisitIn, NamesVisit}
use Rattle.visit_choices.specs.Walks.{choices_of}
use Rattle.else_visits.proofs.Excluded.{constrained_named, otherwise_named}
use Rattle.unified_visits.proofs.Named.{if_ok}
use Rattle.else_visits.proofs.otherwise.after_all_choices.Goals as goal

pub returns-clause-known : goal.returns-clause-known
returns-clause-known g c =
    let old = g.B.Bank.trees c.args.bank.now in
    let new = g.B.Bank.trees c.diffs_of_choices.new.bank in
    let choosing = c.args.choosing.now in
    let w = choosing.visit.now in
    if_ok c.with_diffs.result (λ (made : Visit). made ≡ record w { diffs = w.diffs ++ c.in_ok-besides.besides }) (λ (made : Visit). IsVisitIn new made)
    (λ made e. (constrained_named (protocol_at choosing.place.now) old new w made (pattern_of choosing.pattern.now) (choices_of choosing) c.in_ok-besides.besides c.diffs_of_choices.ensures.grows c.requires.visit c.in_ok-besides.ensures.show e).known) c.with_diffs.ensures

pub returns-clause-names : goal.returns-clause-names
returns-clause-names g c =
    let old = g.B.Bank.trees c.args.bank.now in
    let new = g.B.Bank.trees c.diffs_of_choices.new.bank in
    let choosing = c.args.choosing.now in
    let P = protocol_at choosing.place.now in
    let w = choosing.visit.now in
    if_ok c.with_diffs.result (λ (made : Visit). made ≡ record w { diffs = w.diffs ++ c.in_ok-besides.besides })
    (λ (made : Visit). (expression : Expression) → choices_of choosing ≡ map (λ c. c.ruled) (choices P expression) → NamesVisit new made (otherwise_visit P (visit_at old w) (pattern_of choosing.pattern.now) expression))
    (λ made e. λ expression are. otherwise_named old new choosing made c.in_ok-besides.besides c.diffs_of_choices.ensures.grows c.requires c.in_ok-besides.ensures.show e expression are) c.with_diffs.ensures

pub returns-clause-grows : goal.returns-clause-grows
returns-clause-grows g c = c.diffs_of_choices.ensures.grows

pub returns-in_err-besides-clause-grows : goal.returns-in_err-besides-clause-grows
returns-in_err-besides-clause-grows g c = c.diffs_of_choices.ensures.grows
