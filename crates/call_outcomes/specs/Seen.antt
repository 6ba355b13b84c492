-- What contracts see of the codes of refused texts, and of replays.
use Rattle.spec_run_text.specs.Faults as run
use Rattle.spec_certificate_text.specs.Terms as report
use Rattle.pi_configurations.specs.Configurations.{configuration_of}
use Rattle.pi_model.specs.Errors.{refusal_of}
use Rattle.run_replay.specs.declared.replaying.Replayed.{Replayed}
use Rattle.run_replay.specs.declared.replaying.Replayed.TheVariants.{Done, Stuck}
use Rattle.call_outcomes.specs.declared.outcome.ReportCode.{ReportCode}
use Rattle.call_outcomes.specs.declared.outcome.ReportCode.TheVariants as text
use Rattle.call_outcomes.specs.declared.outcome.RunCode.{RunCode}
use Rattle.call_outcomes.specs.declared.outcome.RunCode.TheVariants as line
use Rattle.call_outcomes.specs.Outcome as own

-- why a report is refused, by its code
abbrev pub report_refusal_by : ReportCode → own.ReportRefusal
report_refusal_by text.Syntax = own.Misspelled report.Syntax
report_refusal_by text.Number = own.Misspelled report.Number
report_refusal_by text.Symbol = own.Misspelled report.Symbol
report_refusal_by text.Arity = own.Misspelled report.Arity
report_refusal_by text.Count = own.Misspelled report.Count
report_refusal_by text.LongFile = own.LongReport
report_refusal_by text.NodeOrder = own.Misspelled report.NodeOrder
report_refusal_by text.NodeLarge = own.Misspelled report.NodeLarge

-- why the text of a run is refused, by its code
abbrev pub run_refusal_by : RunCode → own.RunRefusal
run_refusal_by line.Word = own.Faulty run.Word
run_refusal_by line.Number = own.Faulty run.Number
run_refusal_by line.LongLine = own.Faulty run.LongLine
run_refusal_by line.LongFile = own.LongRun

-- a replay, by its end, the number of its steps and what they show
abbrev pub replay_of : Replayed → own.Replay
replay_of (Done end firsts) = own.Done (configuration_of end) end.steps firsts
replay_of (Stuck number refusal) = own.Stuck number (refusal_of refusal)
