use Rattle.std.proofs.Common.{◌≡◌, List, None, map, sym, ap, subst, rules}
use Rattle.spec_calculus.specs.Runs.{Step}
use Rattle.pi_tree.specs.Protocols.{protocol_of}
use Rattle.pi_model.specs.Steps.{step_of}
use Rattle.run_replay.specs.Reached.{IsDoneSomewhere, IsViolatedSometime}
use Rattle.attack_run.proofs.Violating.{steps_told, no_steps_told, no_attack}
use Rattle.attack_run.proofs.reconstructing.reconstruct.Goals as goal

pub returns-in_default : goal.returns-in_default
returns-in_default c = λ q log at tell steps attack.
    let P = protocol_of c.args.protocol.now in
    let none : c.in_ok-items.field-0 ≡ None = search rules in
    no_steps_told P q log c.args.entry c.in_ok-items.field-0 (c.in_ok-items.ensures.compiled q log at tell) none steps attack.compiled

pub returns : goal.returns
returns c = λ q log at tell.
    let P = protocol_of c.args.protocol.now in
    let steps : List Step = map step_of c.in-Some.items.items in
    let compiled = steps_told P q log c.args.entry c.in_ok-items.field-0 (c.in_ok-items.ensures.compiled q log at tell) c.in-Some.items c.in-Some.is in
    let same : map step_of c.deref.result.now ≡ steps = ap (map step_of) c.deref.ensures.value in
    no_attack P q log c.args.entry steps compiled (λ done often.
    let is_violated = c.in_ok-violates.ensures.all (subst (λ (l : List Step). IsDoneSomewhere P l) (sym same) done) q at (subst (λ (l : List Step). IsViolatedSometime P l q) (sym same) often) in
    cc (is_violated, c.if-branch.false))
