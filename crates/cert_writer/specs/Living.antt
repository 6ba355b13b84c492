-- The clauses over ids of the entries that no later one is told to subsume, in order.
use Rattle.std.specs.Prelude.{List, map, filter}
use Rattle.log_entries.specs.declared.log.Entry.{Entry}
use Rattle.log_entries.specs.Logs.{is_unbeaten}
use Rattle.clause_form.specs.Seen.{IdClause}

abbrev pub live_ids : List Entry → List IdClause
live_ids entries = map (λ entry. entry.clause) (filter (λ entry. is_unbeaten entry.by) entries)
