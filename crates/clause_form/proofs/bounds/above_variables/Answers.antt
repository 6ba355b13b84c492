use Rattle.std.proofs.Common.{◌≡◌, max, flat_map, rules, arith}
use Rattle.spec_clauses.specs.Variables.{fact_variables}
use Rattle.clause_form.specs.Bounds.{above}
use Rattle.clause_form.specs.Seen.{clause_at}
use Rattle.clause_form.proofs.Bounding.{above_clause, clause_below, clause_least}
use Rattle.clause_form.proofs.bounds.above_variables.Goals as goal

pub returns-clause-below : goal.returns-clause-below
returns-clause-below g c =
    let all = g.B.Bank.trees c.args.bank.now in
    let clause = clause_at all c.args.clause.now in
    let first : c.above_fact-found.result ≡ max 0 (above (fact_variables (clause_at all c.args.clause.now).conclusion)) = search rules in
    let others : c.above_facts.result ≡ max c.above_fact-found.result (above (flat_map fact_variables (clause_at all c.args.clause.now).hypotheses)) = search rules in
    let is = above_clause clause c.above_fact-found.result c.above_facts.result first others in
    clause_below clause c.above_facts.result (omega (arith, is))

pub returns-clause-least : goal.returns-clause-least
returns-clause-least g c =
    let all = g.B.Bank.trees c.args.bank.now in
    let clause = clause_at all c.args.clause.now in
    let first : c.above_fact-found.result ≡ max 0 (above (fact_variables (clause_at all c.args.clause.now).conclusion)) = search rules in
    let others : c.above_facts.result ≡ max c.above_fact-found.result (above (flat_map fact_variables (clause_at all c.args.clause.now).hypotheses)) = search rules in
    let is = above_clause clause c.above_fact-found.result c.above_facts.result first others in
    λ n below. omega (arith, is, clause_least clause n below)
