use Rattle.log_entries.proofs.Telling.{TellLog-grows}
use Rattle.log_entries.proofs.Living.{tell_known, tell_live}
use Rattle.log_entries.proofs.entries_tell_logs.Goals as goal

pub returns-clause-known : goal.returns-clause-known
returns-clause-known c = λ all entries log tell. tell_known all log 1 entries log tell

pub returns-clause-grown : goal.returns-clause-grown
returns-clause-grown c = TellLog-grows

pub returns-clause-live : goal.returns-clause-live
returns-clause-live c = λ all entries log tell. tell_live all log 1 entries log tell
