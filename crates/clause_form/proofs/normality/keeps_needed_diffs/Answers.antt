use Rattle.std.proofs.Common.{◌≡◌, ◌∙◌, ap, sym, rules}
use Rattle.std.proofs.lemmas.Bool.{false≢true}
use Rattle.clause_diffs.specs.Diffs.{diffs_at}
use Rattle.clause_form.specs.Seen.{clause_at}
use Rattle.clause_form.proofs.Told.{tidy_told}
use Rattle.clause_form.proofs.normality.keeps_needed_diffs.Goals as goal

pub returns-then-not-branch : goal.returns-then-not-branch
returns-then-not-branch g c = (λ e. absurd (false≢true e), λ k. absurd (false≢true (sym c.if-not-branch.true ∙ c.in_ok-has_none_needless.ensures.1 k.0)))

pub returns : goal.returns
returns g c =
    let all = g.B.Bank.trees c.args.bank.now in
    let diffs_are : c.deref.result.now ≡ c.args.clause.now.diffs = search rules in
    tidy_told (clause_at all c.args.clause.now) (diffs_at all c.deref.result.now) c.in_ok-has_none_needless.field-0 c.are_tidied.result (ap (diffs_at all) diffs_are) c.in_ok-has_none_needless.ensures c.if-not-branch.false c.are_tidied.ensures
