use Rattle.std.proofs.Common.{◌≡◌, ◌∙◌, List, max, flat_map, ap, rules}
use Rattle.spec_clauses.specs.Diff.{diff_variables}
use Rattle.term_tree.specs.declared.bank.Id.{Id}
use Rattle.clause_diffs.specs.Diffs.{DiffOf, diffs_at}
use Rattle.clause_form.specs.Bounds.{above}
use Rattle.clause_form.specs.Seen.{clause_at}
use Rattle.shared_cert.proofs.Behind.{all_below, all_least}
use Rattle.shared_cert.proofs.spelling.above_clause.Goals as goal

pub returns-in-Ok-clause-below : goal.returns-in-Ok-clause-below
returns-in-Ok-clause-below g c =
    let all = g.B.Bank.trees c.args.bank.now in
    let diffs : c.deref.result.now ≡ c.args.clause.now.diffs = search rules in
    all_below (clause_at all c.args.clause.now) c.above_variables-facts.result c.in-Ok.next c.above_variables-facts.ensures.below
    (c.in-Ok.ensures.1 ∙ (c.in_ok-all.ensures ∙ ap (λ (ds : List (DiffOf Id)). max c.above_variables-facts.result (above (flat_map diff_variables (diffs_at all ds)))) diffs))

pub returns-in-Ok-clause-least : goal.returns-in-Ok-clause-least
returns-in-Ok-clause-least g c = λ n.
    let all = g.B.Bank.trees c.args.bank.now in
    let diffs : c.deref.result.now ≡ c.args.clause.now.diffs = search rules in
    all_least (clause_at all c.args.clause.now) c.above_variables-facts.result c.in-Ok.next n c.above_variables-facts.ensures.least
    (c.in-Ok.ensures.1 ∙ (c.in_ok-all.ensures ∙ ap (λ (ds : List (DiffOf Id)). max c.above_variables-facts.result (above (flat_map diff_variables (diffs_at all ds)))) diffs))
