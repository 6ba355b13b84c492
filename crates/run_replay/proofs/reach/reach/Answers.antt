use Rattle.std.proofs.Common.{◌≡◌, ◌+◌, map, sym, ◌∙◌, ap, subst, arith}
use Rattle.std.proofs.lemmas.List.{length-map}
use Rattle.pi_model.specs.Steps.{step_of}
use Rattle.pi_model.specs.Errors.{refusal_of}
use Rattle.pi_tree.specs.Protocols.{protocol_of}
use Rattle.run_replay.specs.Replay.{IsFirstRefused}
use Rattle.run_replay.proofs.Applying.{item_at, IsSoFar-push, IsSoFar-end, IsSoFar-stop}
use Rattle.run_replay.proofs.reach.reach.Goals as goal

pub returns-in-Err-Refused : goal.returns-in-Err-Refused
returns-in-Err-Refused c =
    let next = item_at step_of c.args.steps.now c.loop-step.step-index c.step-item.result (omega arith) c.step-item.is in
    let refused = rw c.in-Err-Refused.field-0-is at c.in-Err-Refused.ensures.refused in
    let stop = IsSoFar-stop _ _ _ _ _ _ c.loop-step.invariant.so_far next refused in
    let counted : c.apply.new.conf.steps ≡ c.loop-step.step-index = ap (λ conf. conf.steps) c.in-Err-Refused.ensures.unchanged ∙ c.loop-step.invariant.counted in
    subst (λ error. IsFirstRefused (protocol_of c.args.protocol.now) (map step_of c.args.steps.now) (c.apply.new.conf.steps + 1) (refusal_of error)) (sym c.in-Err-Refused.error-is)
    (subst (λ number. IsFirstRefused (protocol_of c.args.protocol.now) (map step_of c.args.steps.now) (number + 1) (refusal_of c.in-Err-Refused.error)) (sym counted) stop)

pub loop-step-preserved : goal.loop-step-preserved
loop-step-preserved c =
    let next = item_at step_of c.args.steps.now c.loop-step.step-index c.step-item.result (omega arith) c.step-item.is in
    record {
      of_protocol = c.apply.ensures.of_protocol;
      counted = omega (arith, c.in-Ok.ensures.steps, c.loop-step.invariant.counted);
      so_far = IsSoFar-push _ _ _ _ _ _ c.loop-step.invariant.so_far next c.in-Ok.ensures.allowed c.in-Ok.ensures.after;
    }

pub returns : goal.returns
returns c =
    let done = IsSoFar-end _ _ _ _ c.loop-step.invariant.so_far (omega (arith, length-map c.args.steps.now step_of)) in
    (done, omega (arith, c.loop-step.invariant.counted, length-map c.args.steps.now step_of))
