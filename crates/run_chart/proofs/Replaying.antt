-- What is drawn of a run, by what its replay shows.
use Rattle.std.proofs.Common.{◌≡◌, ℕ, ◌<◌, Option, List, length, map, subst, sym, arith}
use Rattle.std.proofs.lemmas.List.{length-map}
use Rattle.spec_calculus.specs.Syntax.{Protocol}
use Rattle.spec_calculus.specs.Runs as calculus
use Rattle.pi_model.specs.declared.steps.Step.{Step}
use Rattle.pi_model.specs.declared.errors.StepError.{StepError}
use Rattle.pi_model.specs.Steps.{step_of}
use Rattle.pi_model.specs.Errors.{refusal_of}
use Rattle.pi_configurations.specs.declared.configurations.Conf.{Conf}
use Rattle.pi_configurations.specs.Configurations.{configuration_of}
use Rattle.run_replay.specs.Replay.{Stuck, IsReplayOf}
use Rattle.run_replay.specs.Shown.{Replays}
use Rattle.run_replay.specs.declared.replaying.Replayed.{Replayed}
use Rattle.run_replay.specs.declared.replaying.Replayed.TheVariants as replayed
use Rattle.run_chart.specs.declared.chart.Chart.{Chart}
use Rattle.run_chart.specs.Drawn.{HasRows, IsChartOf}

-- one that replays has a chart, with the rows of its steps
pub done_drawn : (P : Protocol) (steps : List Step) (shown : Replayed) (end : Conf) (firsts : List (Option ℕ)) (chart : Chart) → Replays P (map step_of steps) shown → shown ≡ replayed.Done end firsts → HasRows firsts (length steps) chart → IsChartOf P (map step_of steps) chart
done_drawn P steps shown end firsts chart told is rows =
    let done = subst (λ r. Replays P (map step_of steps) r) is told in
    record {
      end = configuration_of end;
      firsts = firsts;
      replays = done.0;
      rows = subst (λ n. HasRows firsts n chart) (sym (length-map steps step_of)) rows;
    }

-- of any other the step is told
pub stuck_drawn : (P : Protocol) (steps : List calculus.Step) (shown : Replayed) (number : ℕ) (error : StepError) → Replays P steps shown → shown ≡ replayed.Stuck number error → IsReplayOf P steps (Stuck number (refusal_of error))
stuck_drawn P steps shown number error told is = subst (λ r. Replays P steps r) is told

-- too many steps to be drawn
pub too_many : (steps : List Step) → 2000 < length steps → 2000 < length (map step_of steps)
too_many steps many = omega (arith, many, length-map steps step_of)

pub ruleset of_drawn = (done_drawn, stuck_drawn, too_many)
