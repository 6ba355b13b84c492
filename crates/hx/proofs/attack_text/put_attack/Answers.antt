-- The word, and the run behind it.
use Rattle.std.proofs.Common.{codes}
use Rattle.std.proofs.lemmas.Result.{on_ok_weaker}
use Rattle.hx.specs.AttackText.{line, run_lines}
use Rattle.hx.proofs.Putting.{behind}
use Rattle.hx.proofs.attack_text.put_attack.Goals as goal

pub returns : goal.returns
returns c =
    on_ok_weaker c.put_run.result (λ run. behind c.args.out.now.items c.extend_from_slice.new.self.items c.put_run.new.out.items (line (codes "attack")) (run_lines c.args.steps.now) c.in_ok-extend_from_slice.ensures.items run) c.put_run.ensures
