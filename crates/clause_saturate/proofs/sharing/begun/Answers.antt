use Rattle.std.proofs.Common.{Option, length, refl, subst}
use Rattle.spec_saturation.specs.Log.{goal_key}
use Rattle.spec_saturation.specs.Common.{with_goal}
use Rattle.log_walks.specs.declared.stops.Stop.{Stop}
use Rattle.log_walks.specs.Walked.{HasPassed}
use Rattle.clause_saturate.specs.Common.{task_of}
use Rattle.clause_saturate.proofs.Commons.{common_walked}
use Rattle.clause_saturate.proofs.sharing.begun.Goals as goal

pub returns-in-None : goal.returns-in-None
returns-in-None c = λ all shared goal proper number size h. record {
  held = common_walked all shared goal c.args.walk _ proper (subst (λ (stop : Option Stop). HasPassed all (task_of shared goal) c.args.walk (goal_key (with_goal shared.clauses goal) (length c.args.walk.items.items)) stop) c.in-None.is h) refl refl refl number size;
  fresh = refl;
  size = size;
}

pub returns-in-Some : goal.returns-in-Some
returns-in-Some c = λ all shared goal proper number size h. c.ended_early.ensures all shared goal
    (subst (λ (stop : Option Stop). HasPassed all (task_of shared goal) c.args.walk (goal_key (with_goal shared.clauses goal) (length c.args.walk.items.items)) stop) c.in-Some.is h)
