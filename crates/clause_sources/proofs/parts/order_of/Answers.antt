use Rattle.std.proofs.Common.{◌≡◌, ◌∙◌, ◌++◌, ℕ, List, IfOk, nat_eq, ap, subst}
use Rattle.spec_clauses.specs.Norm.{distinct}
use Rattle.spec_attack_runs.specs.Source.{source_variables}
use Rattle.clause_sources.specs.Seen.{action_of}
use Rattle.clause_sources.proofs.BoundVariables.{variables_same}
use Rattle.clause_sources.proofs.parts.order_of.Goals as goal

pub returns : goal.returns
returns c =
    let raw = c.args.raw.now in
    let action = action_of c.args.action.now in
    let here = source_variables (record { raw = raw; part = 1; action = action }) in
    subst (λ (l : List ℕ). IfOk c.new.result (λ order. order ≡ distinct nat_eq l)) (c.in_ok-add_source_variables.ensures ∙ (ap (λ l. l ++ here) c.new-numbers.ensures.items ∙ variables_same raw action)) c.new.ensures
