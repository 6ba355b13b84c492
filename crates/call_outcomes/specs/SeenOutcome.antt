-- What contracts see of an outcome.
use Rattle.protocol_loading.specs.Codes.{refusal_by}
use Rattle.call_outcomes.specs.declared.outcome.Refusal.{Refusal}
use Rattle.call_outcomes.specs.declared.outcome.Refusal.TheVariants.{Protocol, Report, Run}
use Rattle.call_outcomes.specs.declared.outcome.Outcome.{Outcome}
use Rattle.call_outcomes.specs.declared.outcome.Outcome.TheVariants.{Usage, Verified, Checked, Listed, ListLarge, NoQuery, Replayed, Ring, Refused, ReadFault, Memory}
use Rattle.call_outcomes.specs.Seen.{report_refusal_by, run_refusal_by, replay_of}
use Rattle.call_outcomes.specs.Outcome as own

abbrev pub refusal_of : Refusal → own.Refusal
refusal_of (Protocol row column code) = own.Protocol row column (refusal_by code)
refusal_of (Report row code) = own.Report row (report_refusal_by code)
refusal_of (Run row code) = own.Run row (run_refusal_by code)

abbrev pub outcome_of : Outcome → own.Outcome
outcome_of Usage = own.Usage
outcome_of (Verified verdicts) = own.Verified verdicts
outcome_of (Checked findings) = own.Checked findings
outcome_of (Listed clauses) = own.Listed clauses
outcome_of (ListLarge point) = own.ListLarge point
outcome_of (NoQuery query) = own.NoQuery query
outcome_of (Replayed replayed) = own.Replayed (replay_of replayed)
outcome_of (Ring ring) = own.Ring ring
outcome_of (Refused refusal) = own.Refused (refusal_of refusal)
outcome_of ReadFault = own.ReadFault
outcome_of Memory = own.Memory
