use Rattle.std.proofs.Common.{◌≡◌, arith}
use Rattle.std.proofs.lemmas.Grind.{common_steps}
use Rattle.pi_tree.specs.Slots.{name_of}
use Rattle.pi_tree.specs.Values.{value_of}
use Rattle.term_values.specs.declared.environments.Binding.{Binding}
use Rattle.term_values.specs.Bindings.{binding_of}
use Rattle.term_values.proofs.Sharing.{copied_next}
use Rattle.term_values.proofs.environments.Environment.copy.Goals as goal

pub loop-binding-preserved : goal.loop-binding-preserved
loop-binding-preserved c =
    let x : Binding = c.binding-item.result in
    let y : Binding = record { slot = x.slot; value = c.in_ok-value.value } in
    let same : binding_of y ≡ binding_of x = λ i. record { name = name_of x.slot; value = value_of (c.in_ok-value.ensures.cases i) } in
    copied_next c.deref-binding-items.result.now c.loop-binding.binding-index x c.loop-binding.items.items c.push.new.self.items y c.loop-binding.invariant c.loop-binding-test.true c.binding-item.is c.in_ok-push.ensures.items same

pub returns : goal.returns
returns c = grind (arith, common_steps)

pub loop-binding-init : goal.loop-binding-init
loop-binding-init c = grind (arith, common_steps)
