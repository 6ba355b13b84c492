use Rattle.std.proofs.Common.{refl, ◌∙◌, ap}
use Rattle.std.specs.Prelude.{option_map, ok_or}
use Rattle.pi_model.specs.Steps.{step_of}
use Rattle.spec_run_text.specs.Faults.{Number}
use Rattle.spec_run_text.specs.Reading.{step_with}
use Rattle.run_replay.specs.Actions.{action_of}
use Rattle.run_replay.proofs.OneLine.{has_parts, read_no_number, read_step}
use Rattle.run_replay.proofs.line.read_line.Goals as goal

pub returns-in_default-2 : goal.returns-in_default-2
returns-in_default-2 c =
    let parts = has_parts c.args.line.now _ _ _ _ c.if-line-gt-MOST_LINE_BYTES.false c.cut.ensures.front c.cut.ensures.behind c.in-Some.ensures c.in_ok-numbers.ensures in
    (read_no_number _ _ _ parts (ap (option_map (λ v. v.items)) c.in_default-2.is), refl)

pub returns-in_default-3 : goal.returns-in_default-3
returns-in_default-3 c =
    let parts = has_parts c.args.line.now _ _ _ _ c.if-line-gt-MOST_LINE_BYTES.false c.cut.ensures.front c.cut.ensures.behind c.in-Some.ensures c.in_ok-numbers.ensures in
    let some = ap (option_map (λ v. v.items)) c.in-Some-2.is in
    let made = c.in_ok-step.ensures ∙ ap (step_with (action_of c.in-Some.action)) c.deref.ensures.value in
    (read_step _ _ _ _ _ parts some made ∙ ap (λ o. ok_or (option_map step_of o) Number) c.in_default-3.is, refl)

pub returns : goal.returns
returns c =
    let parts = has_parts c.args.line.now _ _ _ _ c.if-line-gt-MOST_LINE_BYTES.false c.cut.ensures.front c.cut.ensures.behind c.in-Some.ensures c.in_ok-numbers.ensures in
    let some = ap (option_map (λ v. v.items)) c.in-Some-2.is in
    let made = c.in_ok-step.ensures ∙ ap (step_with (action_of c.in-Some.action)) c.deref.ensures.value in
    read_step _ _ _ _ _ parts some made ∙ ap (λ o. ok_or (option_map step_of o) Number) c.in-Some-3.is
