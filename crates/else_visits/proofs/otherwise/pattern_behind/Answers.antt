use Rattle.std.proofs.Common.{◌∙◌, ◌+◌, ◌-◌, ◌^◌, ◌<◌, ℕ, List, subst}
use Rattle.std.specs.List.{AllByRecursion}
use Rattle.pi_tree.specs.Patterns.{pattern_of}
use Rattle.spec_translation.specs.Conversion.{pattern_term}
use Rattle.spec_translation.specs.InTerms.{numbered_behind}
use Rattle.term_tree.specs.Bank.{Names}
use Rattle.term_tree.specs.declared.bank.Id.{Id}
use Rattle.clause_terms.specs.declared.patterns.Fresh.{Fresh}
use Rattle.clause_terms.specs.Fresh.{fresh_of}
use Rattle.clause_terms.specs.Scopes.{scope_at}
use Rattle.unified_visits.specs.Places.{protocol_at}
use Rattle.unified_visits.specs.Visits.{visit_at}
use Rattle.unified_visits.proofs.Named.{if_ok}
use Rattle.else_visits.proofs.otherwise.pattern_behind.Goals as goal

pub pattern_term-requires-clause-room : goal.pattern_term-requires-clause-room
pattern_term-requires-clause-room g c =
    let at = c.in_ok-at.at in
    subst (λ (l : List ℕ). AllByRecursion (λ i. at.base + (i - at.first) < 2 ^ 32) l) (c.deref.ensures.value ∙ c.in_ok-numbers.ensures) c.in_ok-at.ensures.room

pub returns-clause-names : goal.returns-clause-names
returns-clause-names g c =
    let old = g.B.Bank.trees c.args.bank.now in
    let new = g.B.Bank.trees c.pattern_term.new.bank in
    let P = protocol_at c.args.choosing.now.place.now in
    let w = c.args.choosing.now.visit.now in
    let pattern = pattern_of c.args.choosing.now.pattern.now in
    if_ok c.pattern_term.result (λ (id : Id). Names new id (pattern_term P (scope_at old w.scope) (fresh_of c.in_ok-at.at) pattern)) (λ (id : Id). Names new id (pattern_term P (visit_at old w).scope (numbered_behind c.args.base) pattern))
    (λ id named. subst (λ (a : Fresh). Names new id (pattern_term P (scope_at old w.scope) (fresh_of a) pattern)) c.in_ok-at.ensures.at named) c.pattern_term.ensures.names
