use Rattle.std.proofs.Common.{◌∙◌, ◌++◌, ap}
use Rattle.spec_clauses.specs.Shown.{Shown}
use Rattle.clause_sources.proofs.BoundVariables.{own_of_shown}
use Rattle.clause_sources.proofs.constraints.add_diff_variables.Goals as goal

pub returns : goal.returns
returns c =
    let d : Shown = record { first = c.diff.inside.first; left = c.diff.inside.left; right = c.diff.inside.right } in
    c.in_ok-append.ensures.items
    ∙ ap (λ l. c.args.numbers.now.items ++ l) (own_of_shown d c.args.diff.now c.deref.result.now c.in_ok-own.own.items c.diff.view_is (c.deref.ensures.value ∙ c.in_ok-all.ensures) c.in_ok-own.ensures)
