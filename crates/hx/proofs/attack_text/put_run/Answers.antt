-- The steps, and the end behind them.
use Rattle.std.proofs.Common.{◌∙◌, ◌++◌, List, map, ap, codes}
use Rattle.std.proofs.lemmas.Result.{on_ok_weaker}
use Rattle.spec_calculus.specs.Runs.{Step}
use Rattle.pi_model.specs.Steps.{step_of}
use Rattle.hx.specs.AttackText.{line, step_lines}
use Rattle.hx.proofs.Putting.{behind, where_put}
use Rattle.hx.proofs.attack_text.put_run.Goals as goal

pub returns : goal.returns
returns c =
    let same = ap (map step_of) c.deref.ensures.value ∙ c.steps.view_is in
    let steps = c.in_ok-put_steps.ensures ∙ ap (λ (all : List Step). c.args.out.now.items ++ step_lines all) same in
    on_ok_weaker c.extend_from_slice.result (λ last. behind c.args.out.now.items c.put_steps.new.out.items c.extend_from_slice.new.self.items (step_lines c.args.steps.now) (line (codes "end")) steps last)
    (where_put c.extend_from_slice.result _ _ (codes "end\n") c.extend_from_slice.ensures.items)
