use Rattle.std.proofs.Common.{List}
use Rattle.spec_saturation.specs.Key.{Entry}
use Rattle.log_entries.specs.PlainLogs.{TellPlainLog}
use Rattle.log_text.specs.Derived.{Derives}
use Rattle.log_text.proofs.tree.entry_derivation.Given as goal

abbrev pub invariant-each : goal.invariant-each
invariant-each l = (entries : List Entry) → TellPlainLog l.log entries → Derives entries l.number l.made.lines.items l.made.rest.items
