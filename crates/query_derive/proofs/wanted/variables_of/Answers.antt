use Rattle.std.proofs.Common.{◌≡◌, ◌∙◌, ◌++◌, ℕ, List, [], ap, nat_eq, subst}
use Rattle.std.specs.Prelude.{IfOk, filter_map}
use Rattle.spec_trees.specs.Tree.{trees}
use Rattle.spec_clauses.specs.Norm.{distinct}
use Rattle.spec_clauses.specs.Variables.{row_leaves}
use Rattle.pi_tree.specs.Events.{event_of}
use Rattle.spec_translation.specs.Goal.{event_variables, variable_at}
use Rattle.query_derive.proofs.Converting.{variables-of_event}
use Rattle.query_derive.proofs.wanted.variables_of.Goals as goal

pub returns : goal.returns
returns c =
    let found : c.deref.result.now ≡ [] ++ filter_map variable_at (row_leaves (trees c.args.event.now.args)) =
    c.deref.ensures.value ∙ (c.in_ok-add_all_variables.ensures ∙ ap (λ l. l ++ filter_map variable_at (row_leaves (trees c.args.event.now.args))) c.in_ok-numbers.ensures.items) in
    let same : distinct nat_eq c.deref.result.now ≡ event_variables (event_of c.args.event.now) = variables-of_event c.args.event.now.args c.deref.result.now found in
    subst (λ (l : List ℕ). IfOk c.distinct_of.result (λ numbers. numbers.items ≡ l)) same c.distinct_of.ensures
