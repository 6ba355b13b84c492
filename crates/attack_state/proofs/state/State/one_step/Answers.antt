use Rattle.std.proofs.Common.{◌∙◌, ◌++◌, [], ◌∷◌, length, refl, ap, arith, length-append}
use Rattle.std.proofs.lemmas.Grind.{common_steps}
use Rattle.pi_tree.specs.Protocols.{protocol_of}
use Rattle.pi_configurations.specs.Configurations.{configuration_of}
use Rattle.pi_model.specs.Steps.{step_of}
use Rattle.attack_state.proofs.Stepping.{knows_some, run_stepped, stepped_done, state_stepped}
use Rattle.attack_state.proofs.state.State.one_step.Goals as goal

pub reach-requires : goal.reach-requires
reach-requires c =
    let old = c.args.self.now in
    knows_some (protocol_of c.args.protocol.now) (configuration_of old.conf) (configuration_of c.apply.new.conf) (step_of c.args.step) old.known c.in-Ok.ensures.after c.requires.known

pub returns-in-Ok-clause-run : goal.returns-in-Ok-clause-run
returns-in-Ok-clause-run c =
    let old = c.args.self.now in
    let longer = ap length c.in_ok-push-in-Ok.ensures.items ∙ length-append old.steps.items (c.args.step ∷ []) in
    run_stepped (protocol_of c.args.protocol.now) old _ (step_of c.args.step) c.requires c.in-Ok.ensures.after c.in-Ok.ensures.of_protocol c.in-Ok.ensures.steps (omega (arith, c.len.ensures, c.if-len-ge-MOST_STEPS.false)) longer c.in_ok-reach-in-Ok.ensures

pub returns-in-Ok-clause-does : goal.returns-in-Ok-clause-does
returns-in-Ok-clause-does c = λ all st is.
    let old = c.args.self.now in
    let d = configuration_of c.apply.new.conf in
    record {
      next = record st { configuration = d; steps = st.steps ++ step_of c.args.step ∷ [] };
      gives = stepped_done (protocol_of c.args.protocol.now) st (step_of c.args.step) (configuration_of old.conf) d is.configuration c.in-Ok.ensures.after c.in-Ok.ensures.allowed;
      is = state_stepped all old _ st c.args.step is c.in_ok-push-in-Ok.ensures.items refl refl refl;
    }

pub returns-then-len-ge-MOST_STEPS-clause-does : goal.returns-then-len-ge-MOST_STEPS-clause-does
returns-then-len-ge-MOST_STEPS-clause-does c = grind (arith, common_steps)

pub returns-in-Err-Refused-clause-does : goal.returns-in-Err-Refused-clause-does
returns-in-Err-Refused-clause-does c = grind (arith, common_steps)
