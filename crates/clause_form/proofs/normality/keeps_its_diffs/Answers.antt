use Rattle.std.proofs.Common.{◌≡◌, ◌∙◌, map, refl, ap, sym, rules}
use Rattle.std.specs.List.{list_any}
use Rattle.std.proofs.lemmas.Bool.{false≢true}
use Rattle.spec_clauses.specs.DiffDecision.{is_never_met}
use Rattle.clause_diffs.specs.Diffs.{diff_at, diffs_at}
use Rattle.clause_form.specs.Seen.{clause_at}
use Rattle.clause_form.proofs.Anchoring.{empty_of}
use Rattle.clause_form.proofs.Told.{none_kept, diffs_told}
use Rattle.clause_form.proofs.normality.keeps_its_diffs.Goals as goal

pub returns-then-is_unconstrained : goal.returns-then-is_unconstrained
returns-then-is_unconstrained g c =
    let all = g.B.Bank.trees c.args.bank.now in
    let none = ap (map (diff_at all)) (empty_of c.args.clause.now.diffs c.is_unconstrained.result c.is_unconstrained.ensures c.if-is_unconstrained.true) in
    (λ e. none_kept (clause_at all c.args.clause.now) none, λ k. refl)

pub returns-then-branch : goal.returns-then-branch
returns-then-branch g c =
    let all = g.B.Bank.trees c.args.bank.now in
    let diffs_are : c.deref.result.now ≡ c.args.clause.now.diffs = search rules in
    let void = ap (λ l. list_any is_never_met (diffs_at all l)) (sym diffs_are) ∙ (sym c.in_ok-is_void.ensures ∙ c.if-branch.true) in
    (λ e. absurd (false≢true e), λ k. absurd (false≢true (sym k.none_void ∙ void)))

pub returns : goal.returns
returns g c =
    let all = g.B.Bank.trees c.args.bank.now in
    let diffs_are : c.deref.result.now ≡ c.args.clause.now.diffs = search rules in
    diffs_told (clause_at all c.args.clause.now) c.in_ok-is_void.field-0 c.keeps_needed_diffs.result (c.in_ok-is_void.ensures ∙ ap (λ l. list_any is_never_met (diffs_at all l)) diffs_are) c.if-branch.false c.keeps_needed_diffs.ensures
