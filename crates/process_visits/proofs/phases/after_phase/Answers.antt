use Rattle.std.proofs.Common.{◌≡◌, List}
use Rattle.spec_terms.specs.Term.{Term}
use Rattle.spec_translation.specs.Visit as translation
use Rattle.unified_visits.specs.declared.visit.Visit.{Visit}
use Rattle.unified_visits.specs.Visits.{visit_at, IsVisitIn, NamesVisit}
use Rattle.unified_visits.proofs.Named.{if_ok, phased}
use Rattle.process_visits.proofs.phases.after_phase.Goals as goal

pub returns : goal.returns
returns c =
    let v = c.args.visit.now in
    if_ok c.in_phase.result (λ (made : Visit). made ≡ record v { phase = c.args.number }) (λ (made : Visit). (all : List Term) → IsVisitIn all v → NamesVisit all made (translation.after_phase (visit_at all v) c.args.number))
    (λ made e all known. phased all v made c.args.number known e) c.in_phase.ensures
