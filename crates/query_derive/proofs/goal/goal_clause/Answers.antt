use Rattle.std.proofs.Common.{◌≡◌, ◌∙◌, length, ap, subst, List}
use Rattle.spec_terms.specs.Term.{Term}
use Rattle.spec_clauses.specs.Fact.{Clause}
use Rattle.spec_clauses.specs.Norm.{norms}
use Rattle.spec_well_formed.specs.Queries.{HasQueryLeaves}
use Rattle.spec_translation.specs.Translation.{goal_clauses}
use Rattle.spec_translation.proofs.Goal.{one_goal}
use Rattle.pi_tree.specs.Protocols.{protocol_of}
use Rattle.pi_tree.specs.Queries.{query_of}
use Rattle.clause_form.specs.Seen.{NameClauses}
use Rattle.query_derive.specs.GoalRows.{OfQuery}
use Rattle.query_derive.proofs.Searching.{if_ok_map}
use Rattle.query_derive.proofs.Deciding.{small_query, query_has, of_query}
use Rattle.query_derive.proofs.Asking.{one_named}
use Rattle.term_tree.proofs.BankLaws.{Grows_refl}
use Rattle.query_derive.proofs.goal.goal_clause.Goals as goal

pub raw_goal-requires-clause-small : goal.raw_goal-requires-clause-small
raw_goal-requires-clause-small g c = small_query (protocol_of c.args.protocol.now) c.args.query (query_of c.query.result.now) c.requires.limits c.query.ensures

pub raw_goal-requires-clause-leaves : goal.raw_goal-requires-clause-leaves
raw_goal-requires-clause-leaves g c = query_has (HasQueryLeaves (protocol_of c.args.protocol.now)) (protocol_of c.args.protocol.now) c.args.query (query_of c.query.result.now) c.requires.queries c.query.ensures

pub returns-clause-names : goal.returns-clause-names
returns-clause-names g c =
    let P = protocol_of c.args.protocol.now in
    let q = query_of c.query.result.now in
    let now = g.B.Bank.trees c.norms_into-made.new.bank in
    let are : norms c.in_ok-raw.raw ≡ goal_clauses P q = ap norms c.in_ok-raw.ensures in
    if_ok_map c.norms_into-made.result (λ made. NameClauses now made (norms c.in_ok-raw.raw)) (λ made. OfQuery P c.args.query (λ p. NameClauses now made (goal_clauses P p)))
    (λ made names. of_query P c.args.query q (λ p. NameClauses now made (goal_clauses P p)) c.query.ensures (subst (λ (l : List (Clause Term)). NameClauses now made l) are names)) c.norms_into-made.ensures.names

pub returns-clause-one : goal.returns-clause-one
returns-clause-one g c =
    let P = protocol_of c.args.protocol.now in
    let q = query_of c.query.result.now in
    let now = g.B.Bank.trees c.norms_into-made.new.bank in
    let are : norms c.in_ok-raw.raw ≡ goal_clauses P q = ap norms c.in_ok-raw.ensures in
    let only = one_goal P q in
    if_ok_map c.norms_into-made.result (λ made. NameClauses now made (norms c.in_ok-raw.raw)) (λ made. length made ≡ 1)
    (λ made names. one_named now made only.0 (norms c.in_ok-raw.raw) names (are ∙ only.1)) c.norms_into-made.ensures.names

pub returns-in_err-raw-clause-grows : goal.returns-in_err-raw-clause-grows
returns-in_err-raw-clause-grows g c = Grows_refl (g.B.Bank.trees c.args.bank.now)
