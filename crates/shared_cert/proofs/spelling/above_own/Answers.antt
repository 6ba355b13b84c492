use Rattle.std.proofs.Common.{◌≡◌, ◌∙◌, ℕ, List, max, ap, sym}
use Rattle.std.proofs.lemmas.List.Folds.{flat_map-map}
use Rattle.spec_clauses.specs.Diff.{diff_variables}
use Rattle.clause_diffs.specs.Diffs.{DiffOf, diff_at}
use Rattle.clause_diffs.proofs.Walks.{diff_known_at}
use Rattle.term_tree.specs.declared.bank.Id.{Id}
use Rattle.clause_form.specs.Bounds.{above}
use Rattle.clause_form.proofs.Bounding.{above_more, above_all}
use Rattle.shared_cert.proofs.spelling.above_own.Goals as goal

pub own_variables-requires : goal.own_variables-requires
own_variables-requires g c = diff_known_at (g.B.Bank.trees c.args.bank.now) c.args.diffs.now c.loop-diff.diff-index c.diff-item.result c.diff-item.is c.requires c.loop-diff-test.true

pub loop-diff-preserved : goal.loop-diff-preserved
loop-diff-preserved g c =
    let all = g.B.Bank.trees c.args.bank.now in
    let own : c.deref.result.now ≡ diff_variables (diff_at all c.diff-item.result) = c.deref.ensures.value ∙ c.in_ok-own.ensures in
    let at = ap (λ (d : DiffOf Id). diff_variables (diff_at all d)) c.diff-item.is in
    above_more (λ (d : DiffOf Id). diff_variables (diff_at all d)) c.args.diffs.now c.loop-diff.diff-index c.diff-item.result c.args.least c.loop-diff.found c.above_numbers-found.result c.loop-diff-test.true c.loop-diff.invariant
    (c.above_numbers-found.ensures ∙ ap (λ (l : List ℕ). max c.loop-diff.found (above l)) (own ∙ at))

pub returns : goal.returns
returns g c =
    let all = g.B.Bank.trees c.args.bank.now in
    above_all (λ (d : DiffOf Id). diff_variables (diff_at all d)) c.args.diffs.now c.loop-diff.diff-index c.args.least c.loop-diff.found c.loop-diff-test.false c.loop-diff.invariant
    ∙ ap (λ l. max c.args.least (above l)) (sym (flat_map-map diff_variables (diff_at all) c.args.diffs.now))
