use Rattle.std.proofs.Common.{◌≡◌, ◌∙◌, ℕ, nat_lt, IfOk, List, filter, ap, sym, subst}
use Rattle.term_tree.specs.declared.bank.Id.{Id}
use Rattle.clause_diffs.specs.Diffs.{DiffOf, shown_at}
use Rattle.clause_diffs.proofs.Shown.{shown-own}
use Rattle.clause_diffs.proofs.variables.own_variables.Goals as goal

pub returns : goal.returns
returns g c =
    let all = g.B.Bank.trees c.args.bank.now in
    let first : c.diff.inside.first ≡ c.args.diff.now.first = ap (λ (d : DiffOf Id). d.first) c.diff.view_is in
    let numbers = c.deref.ensures.value ∙ c.in_ok-numbers.ensures in
    subst (λ (l : List ℕ). IfOk c.numbers_below.result (λ kept. kept.items ≡ l)) ((λ i. filter (λ x. nat_lt x (first i)) (numbers i)) ∙ sym (shown-own (shown_at all c.args.diff.now))) c.numbers_below.ensures
