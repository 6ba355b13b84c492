-- What is drawn of a run: a chart only of one that replays.
use Rattle.std.specs.Prelude.{◌≡◌, ℕ, Option, List, ◌≤◌, ◌<◌, length, map}
use Rattle.spec_calculus.specs.Syntax.{Protocol}
use Rattle.spec_calculus.specs.Runs.{Configuration, Step}
use Rattle.run_replay.specs.Replay.{Done, Stuck, IsReplayOf}
use Rattle.pi_model.specs.Errors.{refusal_of}
use Rattle.run_chart.specs.declared.chart.Chart.{Chart}
use Rattle.run_chart.specs.declared.drawing.Drawn.{Drawn}
use Rattle.run_chart.specs.declared.drawing.Drawn.TheVariants as drawn
use Rattle.run_chart.specs.Rows.{told_of, told_of_run}

-- the rows of a chart: one for the start and one for each of so many steps, and behind each those of exactly the queries that are violated since then
abbrev pub HasRows : List (Option ℕ) → ℕ → Chart → Type 0
HasRows firsts count chart = map told_of chart.rows.items ≡ told_of_run firsts count

-- the steps replay to their end, and the chart has their rows, with the violations of the replay
pub record IsChartOf (P : Protocol) (steps : List Step) (chart : Chart) : Type 0 where
  pub end : Configuration
  pub firsts : List (Option ℕ)
  pub replays : IsReplayOf P steps (Done end firsts)
  pub rows : HasRows firsts (length steps) chart

-- a chart stands for a run that replays; of any other the first step that is refused is told; and nothing of one that is too long
abbrev pub IsDrawnOf : Protocol → List Step → Drawn → Type 0
IsDrawnOf P steps (drawn.Chart chart) = (length steps ≤ 2000) × IsChartOf P steps chart
IsDrawnOf P steps (drawn.Stuck number error) = (length steps ≤ 2000) × IsReplayOf P steps (Stuck number (refusal_of error))
IsDrawnOf P steps drawn.TooLong = 2000 < length steps
