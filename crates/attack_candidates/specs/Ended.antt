-- The entries of a saturation, however it ends.
use Rattle.std.specs.Prelude.{List}
use Rattle.log_entries.specs.declared.log.Entry.{Entry}
use Rattle.log_entries.specs.declared.log.Saturated.{Saturated}
use Rattle.log_entries.specs.declared.log.Saturated.TheVariants.{Closed, Spent, Large}

abbrev pub entries_of : Saturated → List Entry
entries_of (Closed log) = log
entries_of (Spent log due) = log
entries_of (Large log solved unsolved) = log
