-- What the reading of a report answers.
use Rattle.std.specs.Prelude.{ℕ, List}
use Rattle.spec_calculus.specs.Bounds.{most_report_bytes}
use Rattle.spec_calculus.specs.Syntax as syntax
use Rattle.spec_certificate_text.specs.Terms as report
use Rattle.hv_io.specs.Place.{line_at}
use Rattle.protocol_loading.specs.declared.loading.Unloaded.{Unloaded}
use Rattle.protocol_loading.specs.declared.loading.Unloaded.TheVariants as unloaded
use Rattle.protocol_loading.specs.Outside.{Outside}
use Rattle.fact_reader.specs.declared.error.CertError.{CertError}
use Rattle.fact_reader.specs.declared.error.CertError.TheVariants as error
use Rattle.call_outcomes.specs.Outcome.{Misspelled, LongReport, Report, Outcome, Refused, ReadFault, Memory}
use Rattle.verifier_cli.specs.Unread.{IfRead}
use Rattle.verifier_cli.specs.Checking.{RefusesReport}

-- a call whose report could not be loaded
abbrev pub report_not_loaded : Unloaded → Outcome
report_not_loaded unloaded.Failed = ReadFault
report_not_loaded unloaded.TooLong = Refused (Report 1 LongReport)
report_not_loaded unloaded.Memory = Memory

-- or not be read in these bytes
abbrev pub report_not_read : List ℕ → CertError → Outcome
report_not_read bytes (error.Syntax place) = Refused (Report (line_at bytes place) (Misspelled report.Syntax))
report_not_read bytes (error.Number place) = Refused (Report (line_at bytes place) (Misspelled report.Number))
report_not_read bytes (error.Symbol place) = Refused (Report (line_at bytes place) (Misspelled report.Symbol))
report_not_read bytes (error.Arity place) = Refused (Report (line_at bytes place) (Misspelled report.Arity))
report_not_read bytes (error.Count place) = Refused (Report (line_at bytes place) (Misspelled report.Count))
report_not_read bytes (error.NodeOrder place) = Refused (Report (line_at bytes place) (Misspelled report.NodeOrder))
report_not_read bytes (error.NodeLarge place) = Refused (Report (line_at bytes place) (Misspelled report.NodeLarge))
report_not_read bytes (error.Memory e) = Memory

-- a call that read no claims in these bytes
abbrev pub IsNoReport : syntax.Protocol → List ℕ → Outcome → Type 0
IsNoReport P bytes (Refused (Report line why)) = RefusesReport P bytes why line
IsNoReport P bytes Memory = Unit {0}
IsNoReport P bytes _ = ⊥

-- a call that has no claims
abbrev pub IsUnreadReport : syntax.Protocol → Outside → List ℕ → Outcome → Type 0
IsUnreadReport P files report outcome = IfRead files report most_report_bytes outcome (λ bytes. IsNoReport P bytes outcome)
