use Rattle.std.proofs.Common.{◌≡◌, ◌++◌, ◌∷◌, [], map, ap, sym, subst, ◌∙◌}
use Rattle.spec_calculus.specs.Syntax.{Made}
use Rattle.term_tree.specs.Bank.{tree_at, Names}
use Rattle.spec_translation.specs.Conversion.{name_term}
use Rattle.spec_translation.specs.Visit.{after_new}
use Rattle.unified_visits.specs.declared.visit.Visit.{Visit}
use Rattle.unified_visits.specs.Visits.{visit_at, NamesVisit}
use Rattle.unified_visits.proofs.Named.{if_ok, restricted}
use Rattle.process_visits.proofs.names.with_name.Goals as goal

pub returns-clause-names : goal.returns-clause-names
returns-clause-names g c =
    let old = g.B.Bank.trees c.args.bank.now in
    let now = g.B.Bank.trees c.name_of_point.new.bank in
    let v = c.args.visit.now in
    let point = c.args.place.now.point in
    let messages = ap (map (tree_at old)) (c.deref.ensures.value ∙ ap (λ (w : Visit). w.messages) c.visit.view_is) in
    let sessions = ap (map (tree_at old)) (c.deref-2.ensures.value ∙ ap (λ (w : Visit). w.sessions) c.visit.view_is) in
    let term = c.in_ok-term.term in
    let whole : Visit = record v { scope = v.scope ++ record { name = Made point; id = term } ∷ [] } in
    let names : Names now term (name_term point (visit_at old v).messages (visit_at old v).sessions) = subst (λ t. Names now term t) (λ i. name_term point (messages i) (sessions i)) c.in_ok-term.ensures.names in
    if_ok c.with_standing.result (λ (made : Visit). made ≡ whole) (λ (made : Visit). NamesVisit now made (after_new (visit_at old v) point))
    (λ made e. subst (λ (m : Visit). NamesVisit now m (after_new (visit_at old v) point)) (sym e) (restricted old now v term point c.name_of_point.ensures.grows c.requires names))
    c.with_standing.ensures
