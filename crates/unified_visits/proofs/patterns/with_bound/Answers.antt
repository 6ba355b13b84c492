use Rattle.pi_tree.specs.Patterns.{pattern_of}
use Rattle.spec_translation.specs.Choice.{with_pattern}
use Rattle.std.proofs.Common.{◌≡◌, ◌++◌, ap}
use Rattle.clause_terms.specs.Fresh.{fresh_of}
use Rattle.unified_visits.specs.declared.visit.Visit.{Visit}
use Rattle.unified_visits.specs.Visits.{visit_at, NamesVisit}
use Rattle.unified_visits.proofs.Named.{if_ok}
use Rattle.unified_visits.proofs.Bound.{bound_named}
use Rattle.unified_visits.proofs.patterns.with_bound.Goals as goal

pub returns-clause-names : goal.returns-clause-names
returns-clause-names g c =
    let old = g.B.Bank.trees c.args.bank.now in
    let now = g.B.Bank.trees c.pattern_scope.new.bank in
    let v = c.args.visit.now in
    if_ok c.with_scope.result (λ (made : Visit). made ≡ record v { scope = v.scope ++ c.in_ok-bound.bound; next = c.args.span.next }) (λ (made : Visit). NamesVisit now made (with_pattern (visit_at old v) (pattern_of c.args.pattern.now) (fresh_of c.args.span.at)))
    (λ made e. bound_named old now v made c.args.span (pattern_of c.args.pattern.now) c.in_ok-bound.bound c.pattern_scope.ensures.grows c.requires.visit c.requires.up c.requires.span c.in_ok-bound.ensures.names e)
    c.with_scope.ensures

pub returns-clause-next : goal.returns-clause-next
returns-clause-next g c =
    let v = c.args.visit.now in
    if_ok c.with_scope.result (λ (made : Visit). made ≡ record v { scope = v.scope ++ c.in_ok-bound.bound; next = c.args.span.next }) (λ (made : Visit). made.next ≡ c.args.span.next)
    (λ made e. ap (λ (x : Visit). x.next) e) c.with_scope.ensures

pub returns-clause-grows : goal.returns-clause-grows
returns-clause-grows g c = c.pattern_scope.ensures.grows
