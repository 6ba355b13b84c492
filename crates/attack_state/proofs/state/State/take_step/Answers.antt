use Rattle.std.proofs.Common.{◌≡◌, ◌∙◌, Bool, length, map, sym, ap, subst, arith}
use Rattle.std.proofs.lemmas.Grind.{common_steps}
use Rattle.std.proofs.lemmas.List.{length-map}
use Rattle.std.proofs.lemmas.Result.{IfOk-weaker}
use Rattle.spec_calculus.specs.Runs.{Configuration}
use Rattle.spec_attack_runs.specs.Compiling.{stepped, new_parts, take_step}
use Rattle.pi_tree.specs.Protocols.{protocol_of}
use Rattle.pi_tree.specs.Values.{value_of}
use Rattle.pi_model.specs.Steps.{step_of}
use Rattle.attack_state.specs.declared.state.State.{State}
use Rattle.attack_state.specs.Outcomes.{Does}
use Rattle.attack_state.specs.Parts.{with_parts}
use Rattle.attack_state.proofs.Behind.{no_fewer_parts}
use Rattle.attack_state.proofs.Outcomes.{stuck_then, does_behind}
use Rattle.attack_state.proofs.Stepping.{take_step-is}
use Rattle.attack_state.proofs.state.State.take_step.Goals as goal

pub returns-then-not-branch-clause-does : goal.returns-then-not-branch-clause-does
returns-then-not-branch-clause-does c = λ all st is next h.
    let P = protocol_of c.args.protocol.now in
    let step = step_of c.args.step in
    let before = c.len-before.result in
    let held = c.self.inside.0.0.0.1.0 in
    let long : before ≡ length held.items.items = omega (arith, c.len-before.ensures, held.items.ok.0) in
    let seen : map value_of held.items.items ≡ c.args.self.now.conf.known = ap (λ (s : State). s.conf.known) c.self.view_is in
    let count : before ≡ length st.configuration.known = long ∙ (sym (length-map held.items.items value_of) ∙ ap length (seen ∙ ap (λ (x : Configuration). x.known) is.configuration)) in
    let stuck = subst (λ (b : Bool). Does (stepped P step) st all c.one_step.new.self b) c.if-not-branch.true (c.in_ok-one_step.ensures.does all st is) in
    stuck_then (with_parts P before) (stepped P step st) (no_fewer_parts P (new_parts P before)) stuck next (sym (take_step-is P step st before count) ∙ h)

pub returns-clause-does : goal.returns-clause-does
returns-clause-does c = λ all st is.
    let P = protocol_of c.args.protocol.now in
    let step = step_of c.args.step in
    let before = c.len-before.result in
    let new = c.new_parts.new.self in
    let held = c.self.inside.0.0.0.1.0 in
    let long : before ≡ length held.items.items = omega (arith, c.len-before.ensures, held.items.ok.0) in
    let seen : map value_of held.items.items ≡ c.args.self.now.conf.known = ap (λ (s : State). s.conf.known) c.self.view_is in
    let count : before ≡ length st.configuration.known = long ∙ (sym (length-map held.items.items value_of) ∙ ap length (seen ∙ ap (λ (x : Configuration). x.known) is.configuration)) in
    let one = subst (λ (b : Bool). Does (stepped P step) st all c.one_step.new.self b) c.if-not-branch.false (c.in_ok-one_step.ensures.does all st is) in
    IfOk-weaker c.new_parts.result (Does (with_parts P before) one.next all new) (Does (take_step P step) st all new)
    (λ b. does_behind (with_parts P before) (take_step P step) (stepped P step st) st one.next all new (take_step-is P step st before count) one.gives b) (c.new_parts.ensures.does all one.next one.is)

pub new_parts-requires : goal.new_parts-requires
new_parts-requires c = grind (arith, common_steps)
