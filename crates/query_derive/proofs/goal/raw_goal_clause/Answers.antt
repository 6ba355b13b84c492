use Rattle.std.proofs.Common.{◌≡◌}
use Rattle.spec_well_formed.specs.Queries.{HasQueryLeaves}
use Rattle.spec_translation.specs.Goal.{goal_raw}
use Rattle.pi_tree.specs.Protocols.{protocol_of}
use Rattle.pi_tree.specs.Queries.{query_of}
use Rattle.query_derive.specs.GoalRows.{OfQuery}
use Rattle.query_derive.proofs.Searching.{if_ok_map}
use Rattle.query_derive.proofs.Deciding.{small_query, query_has, of_query}
use Rattle.query_derive.proofs.goal.raw_goal_clause.Goals as goal

pub raw_goal-requires-clause-small : goal.raw_goal-requires-clause-small
raw_goal-requires-clause-small c = small_query (protocol_of c.args.protocol.now) c.args.query (query_of c.query.result.now) c.requires.limits c.query.ensures

pub raw_goal-requires-clause-leaves : goal.raw_goal-requires-clause-leaves
raw_goal-requires-clause-leaves c = query_has (HasQueryLeaves (protocol_of c.args.protocol.now)) (protocol_of c.args.protocol.now) c.args.query (query_of c.query.result.now) c.requires.queries c.query.ensures

pub returns : goal.returns
returns c =
    let P = protocol_of c.args.protocol.now in
    let q = query_of c.query.result.now in
    if_ok_map c.raw_goal.result (λ raw. raw ≡ goal_raw P q) (λ raw. OfQuery P c.args.query (λ p. raw ≡ goal_raw P p))
    (λ raw is. of_query P c.args.query q (λ p. raw ≡ goal_raw P p) c.query.ensures is) c.raw_goal.ensures
