use Rattle.std.proofs.Common.{◌∙◌, Option, Some, false, ℕ, sym, refl, subst, arith}
use Rattle.std.proofs.lemmas.Grind.{common_steps}
use Rattle.spec_calculus.specs.Bounds.{most_visits}
use Rattle.spec_translation.specs.Visit.{first_visit}
use Rattle.pi_tree.specs.Protocols.{protocol_of}
use Rattle.process_visits.specs.declared.listing.Listing.{Listing}
use Rattle.clause_translate.specs.Gathering.{Tells}
use Rattle.clause_translate.proofs.FewPoints.{first_few}
use Rattle.clause_translate.proofs.Reading.{main_fit, has_fit_rules}
use Rattle.clause_translate.proofs.AllSources.{never_large, never_untold, before_goal}
use Rattle.clause_translate.proofs.origins.common_sources.Goals as goal

pub visit_main-requires-clause-fit : goal.visit_main-requires-clause-fit
visit_main-requires-clause-fit g c = main_fit (protocol_of c.args.protocol.now) c.requires.scoped

pub visit_main-requires-clause-rules : goal.visit_main-requires-clause-rules
visit_main-requires-clause-rules g c = has_fit_rules (protocol_of c.args.protocol.now) c.requires.rules c.requires.limits c.requires.scoped

pub visit_main-requires-clause-points : goal.visit_main-requires-clause-points
visit_main-requires-clause-points g c = first_few (protocol_of c.args.protocol.now).main c.requires.limits.points

pub unreachable-requires : goal.unreachable-requires
unreachable-requires g c =
    let before : Listing = record { clauses = c.new.result.items; left = most_visits; keeps = false; choices = c.no_choices.result; sources = Some c.in_ok-known.known } in
    never_large (protocol_of c.args.protocol.now) (g.B.Bank.trees c.visit_main.new.bank) before c.visit_main.new.listing c.in_ok-visit_main.field-0 c.in-Some.field-0 c.requires.small refl c.in-Some.is c.in_ok-visit_main.ensures.ends

pub unreachable-requires-in-None-take : goal.unreachable-requires-in-None-take
unreachable-requires-in-None-take g c =
    let before : Listing = record { clauses = c.new.result.items; left = most_visits; keeps = false; choices = c.no_choices.result; sources = Some c.in_ok-known.known } in
    never_untold (protocol_of c.args.protocol.now) before c.visit_main.new.listing c.in_ok-known.known c.in_ok-visit_main.field-0 c.take.result refl c.in-None.is c.take.ensures.value c.in-None-take.is c.in_ok-visit_main.ensures.tells

pub returns-clause-sources : goal.returns-clause-sources
returns-clause-sources g c =
    let P = protocol_of c.args.protocol.now in
    let before : Listing = record { clauses = c.new.result.items; left = most_visits; keeps = false; choices = c.no_choices.result; sources = Some c.in_ok-known.known } in
    before_goal P before c.visit_main.new.listing c.in_ok-known.known c.in-Some-take.sources refl c.no_choices.ensures c.in_ok-known.ensures.tells (sym c.take.ensures.value ∙ c.in-Some-take.is)
    (subst (λ (o : Option ℕ). Tells P P.main 1 first_visit before c.visit_main.new.listing o) c.in-None.is c.in_ok-visit_main.ensures.tells)

pub returns-clause-grows : goal.returns-clause-grows
returns-clause-grows g c = grind (arith, common_steps)

pub returns-in_err-known-clause-grows : goal.returns-in_err-known-clause-grows
returns-in_err-known-clause-grows g c = grind (arith, common_steps)
