use Rattle.std.proofs.Common.{List, ◌++◌, map, sym, subst, ◌∙◌}
use Rattle.pi_tree.specs.Protocols.{protocol_of}
use Rattle.spec_translation.specs.Translation.{goal_clauses}
use Rattle.clause_form.specs.Seen.{clause_at, NameClauses, IdClause}
use Rattle.clause_form.specs.Fit.{AreLowWithinLimit}
use Rattle.clause_form.proofs.Low.{AreLowWithinLimit-grow, AreLowWithinLimit-append}
use Rattle.process_visits.proofs.Adding.{clauses_later}
use Rattle.process_visits.proofs.Listings.{NameClauses-append}
use Rattle.clause_translate.proofs.Translating.{translates_to}
use Rattle.clause_translate.proofs.whole.with_goal.Goals as goal

pub returns-clause-names : goal.returns-clause-names
returns-clause-names g c = λ q is.
    let old = g.B.Bank.trees c.args.bank.now in
    let new = g.B.Bank.trees c.goal_clause.new.bank in
    let before = map (clause_at old) c.args.clauses in
    let goal = goal_clauses (protocol_of c.args.protocol.now) q in
    subst (λ (cs : List IdClause). NameClauses new cs (before ++ goal)) (sym (c.in_ok-append.ensures.items ∙ (λ i. c.clauses.view_is i ++ c.goal.view_is i)))
    (NameClauses-append new c.args.clauses c.in_ok-goal.goal before goal (clauses_later old new c.args.clauses c.goal_clause.ensures.grows c.requires.common.names.known) (c.in_ok-goal.ensures.names q is))

pub returns-clause-translates : goal.returns-clause-translates
returns-clause-translates g c =
    let old = g.B.Bank.trees c.args.bank.now in
    let new = g.B.Bank.trees c.goal_clause.new.bank in
    let P = protocol_of c.args.protocol.now in
    translates_to P c.args.query old new c.args.clauses _ c.requires.there c.requires.common (λ q is.
    let before = map (clause_at old) c.args.clauses in
    let goal = goal_clauses P q in
    subst (λ (cs : List IdClause). NameClauses new cs (before ++ goal)) (sym (c.in_ok-append.ensures.items ∙ (λ i. c.clauses.view_is i ++ c.goal.view_is i)))
    (NameClauses-append new c.args.clauses c.in_ok-goal.goal before goal (clauses_later old new c.args.clauses c.goal_clause.ensures.grows c.requires.common.names.known) (c.in_ok-goal.ensures.names q is)))
    (subst (AreLowWithinLimit new) (sym (c.in_ok-append.ensures.items ∙ (λ i. c.clauses.view_is i ++ c.goal.view_is i)))
    (AreLowWithinLimit-append new c.args.clauses c.in_ok-goal.goal (AreLowWithinLimit-grow old new c.args.clauses c.goal_clause.ensures.grows c.requires.common.names.known c.requires.common.low) c.in_ok-goal.ensures.low))
