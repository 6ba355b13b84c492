use Rattle.std.proofs.Common.{List, sym, subst}
use Rattle.clause_form.specs.Seen.{IdClause}
use Rattle.clause_form.specs.Fit.{IsFit}
use Rattle.attack_candidates.specs.declared.found.Goal.{Goal}
use Rattle.attack_candidates.specs.Sound.{AreFitGoals}
use Rattle.attack_candidates.proofs.Keeping.{goals_push}
use Rattle.attack_candidates.proofs.found.add_goal.Goals as goal

pub returns : goal.returns
returns c =
    let all = c.args.bank.now in
    let g : Goal = record { clause = c.in_ok-copied.copied; is_solved = c.is_solved.result; features = c.features.result; number = c.args.number } in
    record {
      normed = c.requires.sound.normed;
      goals = subst (λ (gs : List Goal). AreFitGoals all gs) (sym {A = List Goal} c.in_ok-push-2.ensures.items)
          (goals_push all c.args.found.now.goals.items g c.requires.sound.goals (subst (λ (x : IdClause). IsFit all x) (sym c.in_ok-copied.ensures) c.requires.clause));
    }
