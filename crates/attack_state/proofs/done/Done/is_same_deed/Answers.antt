use Rattle.std.proofs.Common.{◌≡◌, ◌∙◌, ◌&&◌, ap, sym}
use Rattle.spec_attack_runs.specs.Walking.{same_choice}
use Rattle.attack_state.specs.States.{same_ids, chosen_of}
use Rattle.attack_state.proofs.Named.{deed_same}
use Rattle.attack_state.proofs.done.Done.is_same_deed.Goals as goal

pub returns-then-are_same : goal.returns-then-are_same
returns-then-are_same c = λ all a b shared h k.
    let x = c.args.self.now in
    let y = c.args.other.now in
    let same : c.are_same.result ≡ same_ids x.messages.items y.messages.items = c.are_same.ensures ∙ (ap (λ l. same_ids l c.deref-2.result.now) c.deref.ensures.value ∙ ap (same_ids x.messages.items) c.deref-2.ensures.value) in
    c.is_same_choice.ensures ∙ sym (deed_same all shared x y a b h k ∙ ap (λ t. t && same_choice (chosen_of x.choice) (chosen_of y.choice)) (sym same ∙ c.if-are_same.true))

pub returns-else-are_same : goal.returns-else-are_same
returns-else-are_same c = λ all a b shared h k.
    let x = c.args.self.now in
    let y = c.args.other.now in
    let same : c.are_same.result ≡ same_ids x.messages.items y.messages.items = c.are_same.ensures ∙ (ap (λ l. same_ids l c.deref-2.result.now) c.deref.ensures.value ∙ ap (same_ids x.messages.items) c.deref-2.ensures.value) in
    c.if-are_same.false ∙ sym (deed_same all shared x y a b h k ∙ ap (λ t. t && same_choice (chosen_of x.choice) (chosen_of y.choice)) (sym same ∙ c.if-are_same.false))
