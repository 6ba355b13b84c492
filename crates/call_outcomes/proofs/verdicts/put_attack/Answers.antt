use Rattle.std.proofs.Common.{◌∙◌, ◌++◌, List, map, ap, codes}
use Rattle.std.proofs.lemmas.Result.{on_ok_weaker}
use Rattle.spec_calculus.specs.Runs.{Step}
use Rattle.pi_model.specs.Steps.{step_of}
use Rattle.call_outcomes.specs.VerdictText.{step_lines}
use Rattle.call_outcomes.proofs.Puts.{where_put, run_put}
use Rattle.call_outcomes.proofs.verdicts.put_attack.Goals as goal

pub returns : goal.returns
returns c =
    let same = ap (map step_of) c.deref.ensures.value ∙ c.steps.view_is in
    let steps = c.in_ok-put_steps.ensures ∙ ap (λ (all : List Step). c.extend_from_slice.new.self.items ++ step_lines all) same in
    on_ok_weaker c.extend_from_slice-2.result (λ last. run_put c.args.out.now.items c.extend_from_slice.new.self.items c.put_steps.new.out.items c.extend_from_slice-2.new.self.items c.args.steps.now c.in_ok-extend_from_slice.ensures.items steps last)
    (where_put c.extend_from_slice-2.result _ _ (codes "end\n") c.extend_from_slice-2.ensures.items)
