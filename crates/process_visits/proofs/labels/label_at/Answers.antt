use Rattle.std.proofs.Common.{◌≡◌, List, ℕ, sym, subst}
use Rattle.spec_calculus.specs.Choices.{label_of}
use Rattle.spec_calculus.specs.Syntax.{Expression}
use Rattle.spec_choice_walks.specs.Instructions.{instructions}
use Rattle.process_visits.specs.Labels.{AreRulesAt, IsLabelAt}
use Rattle.unified_visits.specs.Places.{protocol_at}
use Rattle.visit_choices.specs.Walks.{instructions_of}
use Rattle.process_visits.proofs.Labelling.{label_told}
use Rattle.unified_visits.proofs.Named.{if_ok}
use Rattle.process_visits.proofs.labels.label_at.Goals as goal

pub returns : goal.returns
returns c =
    let choosing = c.args.choosing.now in
    let P = protocol_at choosing.place.now in
    let rules = c.deref.result.now in
    if_ok c.label_of.result (λ (label : List ℕ). label ≡ label_of rules) (λ (label : List ℕ). (e : Expression) → instructions_of choosing ≡ instructions e → IsLabelAt P e c.args.number label)
    (λ label is. λ e same. label_told P e c.args.number (instructions_of choosing) rules label same (subst (λ (l : List ℕ). AreRulesAt P (instructions_of choosing) c.args.number l) (sym c.deref.ensures.value) c.in_ok-rules.ensures) is) c.label_of.ensures
